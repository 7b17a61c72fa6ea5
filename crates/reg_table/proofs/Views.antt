-- Lemmas about the place and the view of an access.
use Rattle.std.proofs.Common.{◌≡◌, ℕ, ◌%◌, ◌<◌, ◌≢◌, ◌↔◌, Bool, true, false, List, [], ◌∷◌, Option, Some, None, if◌then◌else◌, refl, ap, sym, ◌∙◌, subst, inl, inr, arith, ◌⊎◌}
use Rattle.std.specs.Prelude.{IfSome}
use Rattle.std.specs.List.{list_all}
use Rattle.std.specs.Option.{option_map}
use Rattle.std.proofs.lemmas.Bool.{cases_Bool, cond-true, cond-false, and_parts, false_from_ne_true}
use Rattle.reg_table.specs.declared.place.Place.{Place}
use Rattle.reg_table.specs.declared.access.Access.{Access}
use Rattle.reg_table.specs.Rows.{row_of}
use Rattle.reg_table.specs.Run.{Run, has_address, place_in}
use Rattle.reg_table.specs.Runs.{runs}
use Rattle.reg_table.specs.Place.{SomeRunHas, Names, SomeLowRunHas, IsLow, place_among, view_among}
use Rattle.reg_table.specs.Access.{access_of, access_at}
use Rattle.reg_table.proofs.SoundRuns.{is_sound}
use Rattle.reg_table.proofs.Steps.{HasPlaceAt-place_in, has_address-true}
use Rattle.reg_table.proofs.Apart.{apart, all_apart, table_apart}
use Rattle.reg_table.proofs.Finding.{none_else, found-named, missed-free, table_sound}
use Rattle.reg_table.proofs.Aligned.{whole_words}
use Rattle.reg_table.proofs.InRange.{named_in_range}

-- No access exists at an address that isn't a multiple of 4.
pub no_part_of_a_word : (a : ℕ) → a % 4 ≢ 0 → access_at a ≡ None
no_part_of_a_word a odd =
    ap (λ o. access_of o (view_among runs a)) ((missed-free a).1 (λ p n. odd (whole_words a p n)))

places_of : (o : Option Place) (v : ℕ) → option_map (λ x. x.place) (access_of o v) ≡ o
places_of None v = refl
places_of (Some p) v = refl

views_of : (o : Option Place) (v : ℕ) → IfSome (access_of o v) (λ x. x.view ≡ v)
views_of None v = tt
views_of (Some p) v = refl

in_range_of : (o : Option Place) (v : ℕ) → IfSome o (λ p. p.index < (row_of p.row).count)
    → IfSome (access_of o v) (λ x. x.place.index < (row_of x.place.row).count)
in_range_of None v h = tt
in_range_of (Some p) v h = h

found_in_range : (a : ℕ) (o : Option Place) → place_among runs a ≡ o → IfSome o (λ p. p.index < (row_of p.row).count)
found_in_range a None e = tt
found_in_range a (Some p) e = named_in_range a p ((found-named a p).0 e)

-- The place of an access is the place that the access's address names.
pub place_met : (o : Option Access) (a : ℕ) → o ≡ access_at a → option_map (λ x. x.place) o ≡ place_among runs a
place_met o a e = ap (option_map (λ x. x.place)) e ∙ places_of (place_among runs a) (view_among runs a)

-- The view of an access is the view of the access's address.
pub view_met : (o : Option Access) (a : ℕ) → o ≡ access_at a → IfSome o (λ x. x.view ≡ view_among runs a)
view_met o a e =
    subst (λ y. IfSome y (λ x. x.view ≡ view_among runs a)) (sym e) (views_of (place_among runs a) (view_among runs a))

-- The index of the access's place is below its row's count.
pub in_range_met : (o : Option Access) (a : ℕ) → o ≡ access_at a
    → IfSome o (λ x. x.place.index < (row_of x.place.row).count)
in_range_met o a e =
    subst (λ y. IfSome y (λ x. x.place.index < (row_of x.place.row).count)) (sym e)
    (in_range_of (place_among runs a) (view_among runs a) (found_in_range a (place_among runs a) refl))

whole_where_none : (rs : List Run) (a : ℕ) → place_among rs a ≡ None → view_among rs a ≡ 0xFFFFFFFF
whole_where_none [] a e = refl
whole_where_none (r ∷ rs) a e =
    elim (cases_Bool (has_address r a)) [
      | inl t ↦ let here = cond-true (has_address r a) (Some (place_in r a)) (place_among rs a) t in
          let some : Some (place_in r a) ≡ None = sym here ∙ e in cc
      | inr f ↦ let later = cond-false (has_address r a) (Some (place_in r a)) (place_among rs a) f in
          let rest : place_among rs a ≡ None = sym later ∙ e in
          rw f (whole_where_none rs a rest)
    ]

low_names : (rs : List Run) (a : ℕ) → SomeLowRunHas rs a → (p : Place) × SomeRunHas rs a p
low_names [] a n = absurd n
low_names (r ∷ rs) a (inl h) = (h.1.0, inl h.1.1)
low_names (r ∷ rs) a (inr n) = let rest = low_names rs a n in (rest.0, inr rest.1)

low_is_shown : (rs : List Run) (a : ℕ) → all_apart rs ≡ true → SomeLowRunHas rs a → view_among rs a ≡ 0xFFFF
low_is_shown [] a d n = absurd n
low_is_shown (r ∷ rs) a d (inl h) = rw (has_address-true r a h.1.0 h.1.1, h.0) refl
low_is_shown (r ∷ rs) a d (inr n) =
    let v = and_parts (list_all (apart r) rs) (all_apart rs) d in
    let rest = low_names rs a n in
    let no : has_address r a ≡ false =
    false_from_ne_true (has_address r a) (λ h. none_else r rs a rest.0 v.0 h rest.1) in
    rw no (low_is_shown rs a v.1 n)

low_if_shown : (low : Bool) (n : ℕ) → (if low then 0xFFFF else n) ≡ 0xFFFF → n ≢ 0xFFFF → low ≡ true
low_if_shown true n e other = refl
low_if_shown false n e other = absurd (other e)

shown_is_low : (rs : List Run) (a : ℕ) → list_all is_sound rs ≡ true → view_among rs a ≡ 0xFFFF → SomeLowRunHas rs a
shown_is_low [] a s e = absurd (omega arith)
shown_is_low (r ∷ rs) a s e =
    let u = and_parts (is_sound r) (list_all is_sound rs) s in
    let own : ℕ = if r.low then 0xFFFF else 0xFFFFFFFF in
    elim (cases_Bool (has_address r a)) [
      | inl t ↦ let mine : own ≡ 0xFFFF = sym (cond-true (has_address r a) own (view_among rs a) t) ∙ e in
          let low = low_if_shown r.low 0xFFFFFFFF mine (λ e. absurd (omega arith)) in
          inl (low, (place_in r a, HasPlaceAt-place_in r a u.0 t))
      | inr f ↦ inr (shown_is_low rs a u.1 (sym (cond-false (has_address r a) own (view_among rs a) f) ∙ e))
    ]

-- An address shows only bits 15:0 if and only if a low run has a place there.
pub low_where : (a : ℕ) → (view_among runs a ≡ 0xFFFF) ↔ IsLow a
low_where a = (λ e. shown_is_low runs a table_sound e, λ n. low_is_shown runs a table_apart n)

one_of_two : (low : Bool) (n : ℕ) → (n ≡ 0xFFFF) ⊎ (n ≡ 0xFFFFFFFF)
    → ((if low then 0xFFFF else n) ≡ 0xFFFF) ⊎ ((if low then 0xFFFF else n) ≡ 0xFFFFFFFF)
one_of_two true n e = inl refl
one_of_two false n e = e

two_views : (rs : List Run) (a : ℕ) → (view_among rs a ≡ 0xFFFF) ⊎ (view_among rs a ≡ 0xFFFFFFFF)
two_views [] a = inr refl
two_views (r ∷ rs) a =
    elim (cases_Bool (has_address r a)) [
      | inl t ↦ rw t (one_of_two r.low 0xFFFFFFFF (inr refl))
      | inr f ↦ rw f (two_views rs a)
    ]

-- Every other address shows all bits.
pub whole_where : (a : ℕ) → (view_among runs a ≡ 0xFFFFFFFF) ↔ (IsLow a → ⊥)
whole_where a = (
  λ e n. let f = (low_where a).1 n in absurd (omega arith),
  λ free. elim (two_views runs a) [
    | inl e ↦ absurd (free ((low_where a).0 e))
    | inr e ↦ e
  ],
)

-- An address that names no place has a view of all bits.
pub view_of_nothing : (a : ℕ) → None ≡ place_among runs a → 0xFFFFFFFF ≡ view_among runs a
view_of_nothing a e = sym (whole_where_none runs a (sym e))

-- The found place is the only one that the address names.
pub exact_if : (a : ℕ) (o : Option Place) → o ≡ place_among runs a → (p : Place) → (o ≡ Some p) ↔ Names a p
exact_if a o e p = (λ is. (found-named a p).0 (sym e ∙ is), λ n. e ∙ (found-named a p).1 n)

pub nothing_if : (a : ℕ) (o : Option Place) → o ≡ place_among runs a → (o ≡ None) ↔ ((p : Place) → Names a p → ⊥)
nothing_if a o e = (λ is. (missed-free a).0 (sym e ∙ is), λ free. e ∙ (missed-free a).1 free)

pub low_if : (a n : ℕ) → n ≡ view_among runs a → (n ≡ 0xFFFF) ↔ IsLow a
low_if a n e = (λ is. (low_where a).0 (sym e ∙ is), λ low. e ∙ (low_where a).1 low)

pub whole_if : (a n : ℕ) → n ≡ view_among runs a → (n ≡ 0xFFFFFFFF) ↔ (IsLow a → ⊥)
whole_if a n e = (λ is. (whole_where a).0 (sym e ∙ is), λ free. e ∙ (whole_where a).1 free)
