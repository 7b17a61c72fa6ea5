-- Lemmas about what changes when a word is stored, a side is requested, or a group gets other interrupts.
use Rattle.std.proofs.Common.{◌≡◌, ℕ, Bool, true, false, ◌&&◌, refl, ap, sym, ◌∙◌, subst, inl, inr}
use Rattle.register_laws.specs.Prelude.{Dir, Group, Interrupts, Owner, Place, Registers, RowId, asked, cause_row}
use Rattle.register_laws.specs.Prelude.{group_in, has_bit, index_of, is_owner, mask_row, option_map_or, place, put}
use Rattle.register_laws.specs.Prelude.{stored, with_interrupts, with_reported, with_wanted, with_word, word_at}
use Rattle.register_laws.proofs.Prelude.{both_ways, cases_Bool}
use Rattle.register_laws.specs.Footprint.{Footprint, ChangesWithin, is_place, the_word, the_bits, pending}
use Rattle.register_laws.proofs.HasWord.{HasWord}
use Rattle.register_laws.proofs.Fields.{is_wanted-put, reported_by-put, words-with_wanted, is_wanted-with_wanted_other, reported_by-with_wanted, words-with_reported, is_wanted-with_reported, reported_by-with_reported_other}
use Rattle.register_laws.proofs.Covers.{cause_is_pending, mask_is_pending}
use Rattle.register_laws.proofs.Footprints.{within-trans}
use Rattle.register_laws.proofs.Owners.{apart, is_group-itself, is_place-itself, is_place-same}
use Rattle.register_laws.proofs.Puts.{word_at-put_other, put_cases}
use Rattle.register_file.specs.declared.owner.Owner.TheVariants as owner
use Rattle.register_laws.proofs.GroupChanges.{GroupChange, kept as unchanged, changed}
use Rattle.register_laws.proofs.Owners.{is_owner-itself}
use Rattle.register_laws.proofs.Footprints.{within-refl}
use Rattle.register_laws.specs.Footprint.{nothing, pending_of}

-- A word at one place, the request for one side, and the reported bits of one group, each within a footprint that
-- contains it.
pub within-put : (f : Footprint) (r : Registers) (p : Place) (v : ℕ) → HasWord f p
    → ChangesWithin f r (record r { words = put r.words p v })
within-put f r p v has = record {
  bits = λ q bit n.
      ap (has_bit bit) (word_at-put_other r.words p q v (apart (λ x. f.bits x bit) p q (has bit) n));
  wanted = λ dir queue n. is_wanted-put r p v dir queue;
  reported = λ g n. reported_by-put r p v g;
}

-- Some bits of a word, with the others unchanged.
pub within-bits : (r : Registers) (p : Place) (v : ℕ) (has : ℕ → Bool)
    → ((bit : ℕ) → has bit ≡ false → has_bit bit v ≡ has_bit bit (word_at r.words p))
    → ChangesWithin (the_bits p has) r (record r { words = put r.words p v })
within-bits r p v has kept = record {
  bits = λ q bit n. elim (cases_Bool (is_place p q)) as
      (λ _. has_bit bit (word_at (put r.words p v) q) ≡ has_bit bit (word_at r.words q)) [
        | inr other ↦
            ap (has_bit bit) (word_at-put_other r.words p q v (apart (is_place p) p q (is_place-itself p) other))
        | inl here ↦
            let off : has bit ≡ false = sym (ap (λ b. b && has bit) here) ∙ n in
            subst (λ x. has_bit bit (word_at (put r.words p v) x) ≡ has_bit bit (word_at r.words x))
            (is_place-same p q here)
            (put_cases r.words p v (λ w. has_bit bit w ≡ has_bit bit (word_at r.words p)) (kept bit off) refl)
      ];
  wanted = λ dir queue n. is_wanted-put r p v dir queue;
  reported = λ g n. reported_by-put r p v g;
}

pub within-with_wanted : (f : Footprint) (r : Registers) (dir : Dir) (queue : ℕ) (wanted : Bool)
    → f.wanted dir queue ≡ true
    → ChangesWithin f r (with_wanted r dir queue wanted)
within-with_wanted f r dir queue wanted has = record {
  bits = λ q bit n. ap (λ ws. has_bit bit (word_at ws q)) (words-with_wanted r dir queue wanted);
  wanted = λ other number n. is_wanted-with_wanted_other r dir other queue number wanted
      (λ e i. both_ways (f.wanted other number) n (sym (λ k. f.wanted (e k) (i k)) ∙ has));
  reported = λ g n. reported_by-with_wanted r dir queue wanted g;
}

pub within-with_reported : (f : Footprint) (r : Registers) (g : Group) (reported : ℕ) → f.reported g ≡ true
    → ChangesWithin f r (with_reported r g reported)
within-with_reported f r g reported has = record {
  bits = λ q bit n. ap (λ ws. has_bit bit (word_at ws q)) (words-with_reported r g reported);
  wanted = λ dir queue n. is_wanted-with_reported r g reported dir queue;
  reported = λ h n. reported_by-with_reported_other r g h reported (apart f.reported g h has n);
}

pub within-word : (r : Registers) (row : RowId) (index word : ℕ)
    → ChangesWithin (the_word (place row index)) r (with_word r row index word)
within-word r row index word =
    within-put (the_word (place row index)) r (place row index) word (λ bit. is_place-itself (place row index))

-- Other interrupts of a group.
pub within-with_interrupts : (r : Registers) (s : Interrupts) → ChangesWithin (pending s.group) r (with_interrupts r s)
within-with_interrupts r s =
    let f : Footprint = pending s.group in
    let cause : Place = place (cause_row s.group) (index_of s.group) in
    let mask : Place = place (mask_row s.group) (index_of s.group) in
    let caused : Registers = record r { words = put r.words cause s.causes } in
    let masked : Registers = record caused { words = put caused.words mask s.enabled } in
    within-trans f r masked (with_reported masked s.group s.reported)
    (within-trans f r caused masked
    (within-put f r cause s.causes (cause_is_pending s.group))
    (within-put f caused mask s.enabled (mask_is_pending s.group)))
    (within-with_reported f masked s.group s.reported (is_group-itself s.group))

pub within-change : (r : Registers) (g : Group) (s : Registers) → GroupChange r g s → ChangesWithin (pending g) r s
within-change r g s unchanged = within-refl (pending g) r
within-change r g s (changed made same is) =
    subst (λ h. ChangesWithin (pending h) r (with_interrupts r made)) same (within-with_interrupts r made)

-- Accesses to a group, a side, and a stored word.
pub within_group : (r : Registers) (change : Group → Registers) → ((g : Group) → GroupChange r g (change g))
    → (o : Owner) → ChangesWithin (pending_of o) r (option_map_or change (group_in o) r)
within_group r change each (owner.Group g) = within-change r g (change g) (each g)
within_group r change each other = within-refl nothing r

pub within-asked : (f : Footprint) (r : Registers) (o : Owner) (wanted : Bool)
    → ((dir : Dir) (queue : ℕ) → is_owner o (owner.Side dir queue) ≡ true → f.wanted dir queue ≡ true)
    → ChangesWithin f r (asked r o wanted)
within-asked f r (owner.Side dir queue) wanted has =
    within-with_wanted f r dir queue wanted (has dir queue (is_owner-itself (owner.Side dir queue)))
within-asked f r other wanted has = within-refl f r

pub within-stored : (f : Footprint) (r : Registers) (p : Place) (view word : ℕ) → HasWord f p
    → ChangesWithin f r (stored r p view word)
within-stored f r p view word has = within-put f r p _ has
