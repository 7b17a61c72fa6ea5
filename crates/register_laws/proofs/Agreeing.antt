-- Lemmas that prove that registers which agree still agree after the same change.
use Rattle.std.proofs.Common.{◌≡◌, ℕ, Bool, true, false, cond, nat_lt, refl, ap, sym, ◌∙◌, subst, inl, inr}
use Rattle.register_file.specs.declared.owner.Owner.TheVariants as owner
use Rattle.register_laws.specs.Prelude.{Dir, Group, Interrupts, Pf, Place, Registers, Vf, cause_row, index_of, is_group}
use Rattle.register_laws.specs.Prelude.{is_owner, is_wanted, mask_row, place, put, reported_by, row_of, with_interrupts}
use Rattle.register_laws.specs.Prelude.{with_reported, with_wanted, word_at}
use Rattle.register_laws.proofs.Prelude.{and_parts, both_ways, cases_Bool, eqb-true}
use Rattle.register_laws.specs.Footprint.{Part, AgreeWithin, is_place}
use Rattle.register_laws.specs.Sound.{HasShape}
use Rattle.register_laws.proofs.Fields.{is_wanted-put, reported_by-put, words-with_wanted, is_wanted-with_wanted_other, reported_by-with_wanted, words-with_reported, is_wanted-with_reported, reported_by-with_reported_other}
use Rattle.register_laws.proofs.Owners.{apart, is_dir-same, is_group-itself, is_group-same, is_owner-itself, is_place-itself, is_place-same}
use Rattle.register_laws.proofs.Puts.{word_at-put_other}
use Rattle.register_laws.proofs.Shape.{HasShape-put}
use Rattle.register_laws.proofs.PastEnd.{word_put, side_wanted, bits_reported}

module _ (f : Part) (a b : Registers) (ha : HasShape a) (hb : HasShape b) (same : AgreeWithin f a b) where
  pub agree-put : (p : Place) (v w : ℕ) → v ≡ w
      → AgreeWithin f (record a { words = put a.words p v }) (record b { words = put b.words p w })
  agree-put p v w e = record {
    words = λ q is. elim (cases_Bool (is_place p q)) as
        (λ _. word_at (put a.words p v) q ≡ word_at (put b.words p w) q) [
          | inl here ↦ subst (λ x. word_at (put a.words p v) x ≡ word_at (put b.words p w) x) (is_place-same p q here)
              (word_put a ha p v ∙ ap (λ x. cond (nat_lt p.index (row_of p.row).count) x 0) e ∙ sym (word_put b hb p w))
          | inr other ↦
              let n = apart (is_place p) p q (is_place-itself p) other in
              word_at-put_other a.words p q v n ∙ same.words q is ∙ sym (word_at-put_other b.words p q w n)
        ];
    wanted = λ dir queue is. is_wanted-put a p v dir queue ∙ same.wanted dir queue is
        ∙ sym (is_wanted-put b p w dir queue);
    reported = λ g is. reported_by-put a p v g ∙ same.reported g is ∙ sym (reported_by-put b p w g);
  }

  pub agree-with_wanted : (dir : Dir) (queue : ℕ) (wanted : Bool)
      → AgreeWithin f (with_wanted a dir queue wanted) (with_wanted b dir queue wanted)
  agree-with_wanted dir queue wanted = record {
    words = λ q is. ap (λ ws. word_at ws q) (words-with_wanted a dir queue wanted) ∙ same.words q is
        ∙ sym (ap (λ ws. word_at ws q) (words-with_wanted b dir queue wanted));
    wanted = λ other number is. elim (cases_Bool (is_owner (owner.Side dir queue) (owner.Side other number))) as
        (λ _. is_wanted (with_wanted a dir queue wanted) other number
        ≡ is_wanted (with_wanted b dir queue wanted) other number) [
          | inl here ↦
              let parts = and_parts _ _ here in
              let side = is_dir-same dir other parts.0 in
              let at = eqb-true queue number parts.1 in
              (λ k. is_wanted (with_wanted a dir queue wanted) (sym side k) (sym at k))
              ∙ side_wanted a ha dir queue wanted ∙ sym (side_wanted b hb dir queue wanted)
              ∙ (λ k. is_wanted (with_wanted b dir queue wanted) (side k) (at k))
          | inr away ↦
              let n = λ (x : dir ≡ other) (y : queue ≡ number). both_ways _ away
              (sym (λ k. is_owner (owner.Side dir queue) (owner.Side (x k) (y k)))
              ∙ is_owner-itself (owner.Side dir queue)) in
              is_wanted-with_wanted_other a dir other queue number wanted n ∙ same.wanted other number is
              ∙ sym (is_wanted-with_wanted_other b dir other queue number wanted n)
        ];
    reported = λ g is. reported_by-with_wanted a dir queue wanted g ∙ same.reported g is
        ∙ sym (reported_by-with_wanted b dir queue wanted g);
  }

  same_bits_reported : (g : Group) (reported : ℕ) → reported_by (with_reported a g reported) g
      ≡ reported_by (with_reported b g reported) g
  same_bits_reported Pf reported = refl
  same_bits_reported (Vf v) reported = bits_reported a ha v reported ∙ sym (bits_reported b hb v reported)

  pub agree-with_reported : (g : Group) (reported : ℕ) →
      AgreeWithin f (with_reported a g reported) (with_reported b g reported)
  agree-with_reported g reported = record {
    words = λ q is. ap (λ ws. word_at ws q) (words-with_reported a g reported) ∙ same.words q is
        ∙ sym (ap (λ ws. word_at ws q) (words-with_reported b g reported));
    wanted = λ dir queue is. is_wanted-with_reported a g reported dir queue ∙ same.wanted dir queue is
        ∙ sym (is_wanted-with_reported b g reported dir queue);
    reported = λ h is. elim (cases_Bool (is_group g h)) as
        (λ _. reported_by (with_reported a g reported) h ≡ reported_by (with_reported b g reported) h) [
          | inl here ↦ subst (λ x. reported_by (with_reported a g reported) x
              ≡ reported_by (with_reported b g reported) x)
              (is_group-same g h here) (same_bits_reported g reported)
          | inr away ↦
              let n = apart (is_group g) g h (is_group-itself g) away in
              reported_by-with_reported_other a g h reported n ∙ same.reported h is
              ∙ sym (reported_by-with_reported_other b g h reported n)
        ];
  }

-- A group with the same interrupts in both register files.
pub agree-with_interrupts : (f : Part) (a b : Registers) → HasShape a → HasShape b → AgreeWithin f a b
    → (s t : Interrupts) → s ≡ t → AgreeWithin f (with_interrupts a s) (with_interrupts b t)
agree-with_interrupts f a b ha hb same s t e =
    let cause : Place = place (cause_row s.group) (index_of s.group) in
    let mask : Place = place (mask_row s.group) (index_of s.group) in
    let caused_a : Registers = record a { words = put a.words cause s.causes } in
    let caused_b : Registers = record b { words = put b.words cause s.causes } in
    let shape_a = HasShape-put a cause s.causes ha in
    let shape_b = HasShape-put b cause s.causes hb in
    let masked_a : Registers = record caused_a { words = put caused_a.words mask s.enabled } in
    let masked_b : Registers = record caused_b { words = put caused_b.words mask s.enabled } in
    subst (λ x. AgreeWithin f (with_interrupts a s) (with_interrupts b x)) e
    (agree-with_reported f masked_a masked_b (HasShape-put caused_a mask s.enabled shape_a)
    (HasShape-put caused_b mask s.enabled shape_b)
    (agree-put f caused_a caused_b shape_a shape_b (agree-put f a b ha hb same cause s.causes s.causes refl) mask
    s.enabled s.enabled refl)
    s.group s.reported)

-- One of two outcomes, chosen by equal tests.
pub agree-if : (f : Part) (x y : Bool) (a b c d : Registers) → x ≡ y → AgreeWithin f a b → AgreeWithin f c d
    → AgreeWithin f (cond x a c) (cond y b d)
agree-if f true true a b c d e on off = on
agree-if f true false a b c d e on off = absurd (cc)
agree-if f false true a b c d e on off = absurd (cc)
agree-if f false false a b c d e on off = off
