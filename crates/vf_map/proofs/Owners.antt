-- Each register in the map belongs to the virtual function's pool or is shared.
use Rattle.std.proofs.Common.{◌≡◌, ◌≢◌, ℕ, zero, suc, ◌+◌, ◌*◌, ◌%◌, ◌<◌, ◌≤◌, Bool, true, ◌==◌, ◌&&◌, ◌||◌, nat_lt, List, [], ◌∷◌, Option, Some, None, refl, sym, ◌∙◌, subst, ◌⊎◌, inl, inr, arith}
use Rattle.std.specs.List.{list_all, range_with_len}
use Rattle.std.proofs.lemmas.Bool.{cases_Bool, cond-true, cond-false, eqb-true, ltb-true, and_parts, or_cases, ltb-false, eq-eqb, both_ways}
use Rattle.reg_table.specs.declared.place.Place.{Place}
use Rattle.reg_table.specs.Rows.{rows, row_of}
use Rattle.vf_map.specs.declared.mode.Mode.{Mode}
use Rattle.vf_map.specs.declared.mode.Mode.TheVariants.{Off, Pools16, Pools32, Pools64}
use Rattle.vf_map.specs.declared.located.Located.TheVariants.{Absent, Register}
use Rattle.vf_map.specs.Pools.{queues_of, queues_each, pools_in}
use Rattle.vf_map.specs.Owner.{is_of_pool, is_shared}
use Rattle.vf_map.specs.Map.{Entry, entries, located}
use Rattle.vf_map.specs.Parts.{place_at}
use Rattle.vf_map.proofs.LocatedAt.{located_at}
use Rattle.vf_map.proofs.Whole.{located_beyond, located_none, located_some}

-- Whether an entry's offset is aligned, and its place is valid and either belongs to the pool or is shared.
is_sound : Mode → (v offset : ℕ) → Place → Bool
is_sound mode v o p = (o % 4 == 0) && nat_lt p.index (row_of p.row).count && (is_of_pool mode v p || is_shared p)

-- Whether `is_sound` is true for all entries of a function.
all_sound : Mode → (v : ℕ) → Bool
all_sound mode v = list_all (λ e. is_sound mode v e.0 e.1) (entries v (v * queues_each mode) (queues_each mode))

functions_sound : (mode : Mode) → list_all (all_sound mode) (range_with_len 0 (pools_in mode)) ≡ true
unfolding all_sound is_sound entries rows
functions_sound Off = refl
functions_sound Pools16 = refl
functions_sound Pools32 = refl
functions_sound Pools64 = refl

pub at_number : (t : ℕ → Bool) (k n v : ℕ) → list_all t (range_with_len k n) ≡ true → k ≤ v → v < k + n → t v ≡ true
at_number t k zero v e l h = absurd (omega arith)
at_number t k (suc n) v e l h =
    let both = and_parts (t k) (list_all t (range_with_len (k + 1) n)) e in
    elim (cases_Bool (k == v)) [
      | inl s ↦ subst (λ x. t x ≡ true) (eqb-true _ _ s) both.0
      | inr f ↦
          let other : k ≢ v = λ s. both_ways _ f (eq-eqb _ _ s) in
          at_number t (k + 1) n v both.1 (omega arith) (omega arith)
    ]

Some-one : {A : Type 0} {x y : A} → Some x ≡ Some y → x ≡ y
Some-one e = cc

at_entry : (t : ℕ → Place → Bool) (es : List Entry) (o : ℕ) (p : Place) → list_all (λ e. t e.0 e.1) es ≡ true →
    place_at es o ≡ Some p → t o p ≡ true
at_entry t [] o p h e = cc
at_entry t (x ∷ es) o p h e =
    let both = and_parts (t x.0 x.1) (list_all (λ e. t e.0 e.1) es) h in
    elim (cases_Bool (x.0 == o)) [
      | inl s ↦
          let there : x.1 ≡ p = Some-one (sym (cond-true (x.0 == o) (Some x.1) (place_at es o) s) ∙ e) in
          subst (λ y. t o y ≡ true) there (subst (λ y. t y x.1 ≡ true) (eqb-true _ _ s) both.0)
      | inr f ↦ at_entry t es o p both.1 (sym (cond-false (x.0 == o) (Some x.1) (place_at es o) f) ∙ e)
    ]

located_place : (m : Option Place) (p : Place) → located_at m ≡ Register p → m ≡ Some p
located_place None p e = cc
located_place (Some q) p e = cc

-- If an offset reaches a register, the function has a pool, and one of the function's entries has the offset.
located_entry : (mode : Mode) (vfs v o : ℕ) (p : Place) → located mode vfs v o ≡ Register p →
    (v < pools_in mode) × (place_at (entries v (v * queues_each mode) (queues_each mode)) o ≡ Some p)
located_entry mode vfs v o p e =
    elim (cases_Bool (nat_lt v vfs)) [
      | inl s ↦ elim (cases_Bool (nat_lt v (pools_in mode))) [
        | inl t ↦
            let pool : queues_of mode v ≡ Some (v * queues_each mode, queues_each mode) =
            cond-true (nat_lt v (pools_in mode)) _ _ t in
            let is = located_some mode vfs v o (v * queues_each mode) (queues_each mode) (ltb-true _ _ s) pool in
            (ltb-true _ _ t, located_place _ p (sym is ∙ e))
        | inr f ↦
            let none : queues_of mode v ≡ None = cond-false (nat_lt v (pools_in mode)) _ _ f in
            let is : Absent ≡ Register p = sym (located_none mode vfs v o (ltb-true _ _ s) none) ∙ e in
            cc
      ]
      | inr f ↦ let is : Absent ≡ Register p = sym (located_beyond mode vfs v o (ltb-false _ _ f)) ∙ e in cc
    ]

sound_at : (mode : Mode) (vfs v o : ℕ) (p : Place) → located mode vfs v o ≡ Register p → is_sound mode v o p ≡ true
unfolding all_sound
sound_at mode vfs v o p e =
    let there = located_entry mode vfs v o p e in
    let below : v < 0 + pools_in mode = omega (arith, there.0) in
    let sound = at_number (all_sound mode) 0 (pools_in mode) v (functions_sound mode) (omega arith) below in
    at_entry (is_sound mode v) (entries v (v * queues_each mode) (queues_each mode)) o p sound there.1

pub located_aligned : (mode : Mode) (vfs v o : ℕ) (p : Place) → located mode vfs v o ≡ Register p → o % 4 ≡ 0
unfolding is_sound
located_aligned mode vfs v o p e =
    let there = (o % 4 == 0) && nat_lt p.index (row_of p.row).count in
    let parts = and_parts there (is_of_pool mode v p || is_shared p) (sound_at mode vfs v o p e) in
    eqb-true _ _ (and_parts (o % 4 == 0) (nat_lt p.index (row_of p.row).count) parts.0).0

pub located_in_range : (mode : Mode) (vfs v o : ℕ) (p : Place) → located mode vfs v o ≡ Register p →
    p.index < (row_of p.row).count
unfolding is_sound
located_in_range mode vfs v o p e =
    let there = (o % 4 == 0) && nat_lt p.index (row_of p.row).count in
    let parts = and_parts there (is_of_pool mode v p || is_shared p) (sound_at mode vfs v o p e) in
    ltb-true _ _ (and_parts (o % 4 == 0) (nat_lt p.index (row_of p.row).count) parts.0).1

pub located_owner : (mode : Mode) (vfs v o : ℕ) (p : Place) → located mode vfs v o ≡ Register p →
    (is_of_pool mode v p ≡ true) ⊎ (is_shared p ≡ true)
unfolding is_sound
located_owner mode vfs v o p e =
    let there = (o % 4 == 0) && nat_lt p.index (row_of p.row).count in
    or_cases (is_of_pool mode v p) (is_shared p)
    (and_parts there (is_of_pool mode v p || is_shared p) (sound_at mode vfs v o p e)).1
