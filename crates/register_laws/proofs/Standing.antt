-- After a group's interrupts are stored in its registers, reading them returns the same interrupts.
use Rattle.std.proofs.Common.{◌≡◌, ◌≢◌, ℕ, ◌^◌, ◌<◌, length, refl, ap, sym, ◌∙◌, subst, lit<}
use Rattle.register_file.specs.RegTable.declared.rows.RowId.TheVariants.{Eicr, Eims, Pvteicr, Pvteims}
use Rattle.register_file.specs.Groups.{cause_row, mask_row, auto_clear_row, auto_mask_row, index_of, reported_by, with_reported, interrupts_of, with_interrupts}
use Rattle.register_file.proofs.Own.{intersection-within}
use Rattle.register_laws.specs.Prelude.{Group, Interrupts, IsConsistent, Pf, Place, Registers, Vf, group_bits}
use Rattle.register_laws.specs.Prelude.{intersection, place, row_of, with_word, word_at, word_of}
use Rattle.register_laws.proofs.Prelude.{get_or-set_same}
use Rattle.register_laws.specs.Footprint.{LacksWord, pending}
use Rattle.register_laws.specs.Laws.{HasShape}
use Rattle.register_laws.proofs.Footprints.{word_stands}
use Rattle.register_laws.proofs.Puts.{word_at-put_other}
use Rattle.register_laws.proofs.Shape.{put_stands, HasShape-put}
use Rattle.register_laws.proofs.Fields.{words-with_reported}
use Rattle.register_laws.proofs.WithinParts.{within-with_interrupts}

pub cause_index : (g : Group) → index_of g < 64 → index_of g < (row_of (cause_row g)).count
cause_index Pf b = lit< tt
cause_index (Vf v) b = b

mask_index : (g : Group) → index_of g < 64 → index_of g < (row_of (mask_row g)).count
mask_index Pf b = lit< tt
mask_index (Vf v) b = b

pub cause_not_mask : (g : Group) → place (cause_row g) (index_of g) ≢ place (mask_row g) (index_of g)
cause_not_mask Pf e = let same : Eicr ≡ Eims = ap (λ (q : Place). q.row) e in cc
cause_not_mask (Vf v) e = let same : Pvteicr ≡ Pvteims = ap (λ (q : Place). q.row) e in cc

auto_clear-steady : (g : Group) → LacksWord (pending g) (place (auto_clear_row g) (index_of g))
auto_clear-steady Pf bit = refl
auto_clear-steady (Vf v) bit = refl

auto_mask-steady : (g : Group) → LacksWord (pending g) (place (auto_mask_row g) (index_of g))
auto_mask-steady Pf bit = refl
auto_mask-steady (Vf v) bit = refl

pub reported_by-with_reported : (r : Registers) (g : Group) (reported : ℕ) → length r.reported_vf ≡ 64 → index_of g < 64
    → reported_by (with_reported r g reported) g ≡ reported
reported_by-with_reported r Pf reported h b = refl
reported_by-with_reported r (Vf v) reported h b = get_or-set_same r.reported_vf v reported 0
    (subst (λ n. v < n) (sym h) b)

module _ (r : Registers) (h : HasShape r) (s : Interrupts) (b : index_of s.group < 64) where
  caused : Registers
  caused = with_word r (cause_row s.group) (index_of s.group) s.causes

  masked : Registers
  masked = with_word caused (mask_row s.group) (index_of s.group) s.enabled

  pub causes_there : word_of (with_interrupts r s) (cause_row s.group) (index_of s.group) ≡ s.causes
  unfolding caused masked
  causes_there =
      ap (λ ws. word_at ws (place (cause_row s.group) (index_of s.group)))
      (words-with_reported masked s.group s.reported)
      ∙ word_at-put_other caused.words (place (mask_row s.group) (index_of s.group))
      (place (cause_row s.group) (index_of s.group)) s.enabled (cause_not_mask s.group)
      ∙ put_stands r (place (cause_row s.group) (index_of s.group)) s.causes h (cause_index s.group b)

  pub enabled_there : word_of (with_interrupts r s) (mask_row s.group) (index_of s.group) ≡ s.enabled
  unfolding caused masked
  enabled_there =
      ap (λ ws. word_at ws (place (mask_row s.group) (index_of s.group)))
      (words-with_reported masked s.group s.reported)
      ∙ put_stands caused (place (mask_row s.group) (index_of s.group)) s.enabled
      (HasShape-put r (place (cause_row s.group) (index_of s.group)) s.causes h) (mask_index s.group b)

  pub report_there : reported_by (with_interrupts r s) s.group ≡ s.reported
  unfolding caused masked
  report_there = reported_by-with_reported masked s.group s.reported h.reported_vf b

  pub interrupts_of-with_interrupts : IsConsistent s → s.causes < 2 ^ 32 → s.enabled < 2 ^ 32 → s.reported < 2 ^ 32
      → interrupts_of (with_interrupts r s) s.group ≡ record s {
        auto_clear =
            (interrupts_of r s.group).auto_clear;
        auto_mask = (interrupts_of r s.group).auto_mask;
      }
  interrupts_of-with_interrupts c small_causes small_enabled small_reported =
      let bits = group_bits s.group in
      let only = within-with_interrupts r s in
      let causes = ap (λ w. intersection w bits) causes_there
      ∙ intersection-within s.causes bits small_causes c.causes_exist in
      let enabled = ap (λ w. intersection w bits) enabled_there
      ∙ intersection-within s.enabled bits small_enabled c.masks_exist in
      let clear = word_stands only (place (auto_clear_row s.group) (index_of s.group)) (auto_clear-steady s.group) in
      let mask = word_stands only (place (auto_mask_row s.group) (index_of s.group)) (auto_mask-steady s.group) in
      let pending = (λ k. intersection (report_there k) (intersection (causes k) (enabled k)))
      ∙ intersection-within s.reported (intersection s.causes s.enabled) small_reported c.reported_is_pending in
      λ k. record {
        group = s.group;
        causes = causes k;
        enabled = enabled k;
        auto_clear = intersection (clear k) bits;
        auto_mask = intersection (mask k) bits;
        reported = pending k;
      }
