-- Lemmas about searching the runs for an address.
use Rattle.std.proofs.Common.{◌≡◌, ℕ, true, false, List, [], ◌∷◌, Option, Some, None, refl, ap, sym, ◌∙◌, subst, inl, inr, ◌↔◌}
use Rattle.std.specs.List.{list_all}
use Rattle.std.proofs.lemmas.Bool.{cases_Bool, cond-true, cond-false, and_parts, false_from_ne_true}
use Rattle.reg_table.specs.declared.place.Place.{Place}
use Rattle.reg_table.specs.Run.{Run, HasPlaceAt, has_address, place_in}
use Rattle.reg_table.proofs.SoundRuns.{is_sound}
use Rattle.reg_table.specs.Runs.{runs}
use Rattle.reg_table.specs.Place.{SomeRunHas, Names, place_among}
use Rattle.reg_table.proofs.Steps.{HasPlaceAt-place_in, has_address-true, place_in-unique}
use Rattle.reg_table.proofs.Apart.{apart, all_apart, not_both, table_apart}

-- If a run has the address and is disjoint from the runs after it, those runs don't have the address.
pub none_else : (r : Run) (rs : List Run) (a : ℕ) (p : Place) → list_all (apart r) rs ≡ true → has_address r a ≡ true
    → SomeRunHas rs a p → ⊥
none_else r [] a p e h n = n
none_else r (q ∷ rs) a p e h (inl i) =
    let f = and_parts (apart r q) (list_all (apart r) rs) e in not_both r q a h (has_address-true q a p i) f.0
none_else r (q ∷ rs) a p e h (inr n) =
    let f = and_parts (apart r q) (list_all (apart r) rs) e in none_else r rs a p f.1 h n

Some-one : {A : Type 0} {x y : A} → Some x ≡ Some y → x ≡ y
Some-one e = cc

found_is_named : (rs : List Run) (a : ℕ) (p : Place) → list_all is_sound rs ≡ true → place_among rs a ≡ Some p
    → SomeRunHas rs a p
found_is_named [] a p s e = cc
found_is_named (r ∷ rs) a p s e =
    let u = and_parts (is_sound r) (list_all is_sound rs) s in
    elim (cases_Bool (has_address r a)) [
      | inl t ↦ let same : place_in r a ≡ p =
          Some-one (sym (cond-true (has_address r a) (Some (place_in r a)) (place_among rs a) t) ∙ e) in
          inl (subst (HasPlaceAt r a) same (HasPlaceAt-place_in r a u.0 t))
      | inr f ↦ inr (found_is_named rs a p u.1
          (sym (cond-false (has_address r a) (Some (place_in r a)) (place_among rs a) f) ∙ e))
    ]

named_is_found : (rs : List Run) (a : ℕ) (p : Place) → list_all is_sound rs ≡ true → all_apart rs ≡ true
    → SomeRunHas rs a p → place_among rs a ≡ Some p
named_is_found [] a p s d n = absurd n
named_is_found (r ∷ rs) a p s d (inl i) =
    let u = and_parts (is_sound r) (list_all is_sound rs) s in
    cond-true (has_address r a) (Some (place_in r a)) (place_among rs a) (has_address-true r a p i)
    ∙ ap (λ q. Some q) (place_in-unique r a p u.0 i)
named_is_found (r ∷ rs) a p s d (inr n) =
    let u = and_parts (is_sound r) (list_all is_sound rs) s in
    let v = and_parts (list_all (apart r) rs) (all_apart rs) d in
    let no : has_address r a ≡ false = false_from_ne_true (has_address r a) (λ h. none_else r rs a p v.0 h n) in
    cond-false (has_address r a) (Some (place_in r a)) (place_among rs a) no ∙ named_is_found rs a p u.1 v.1 n

pub table_sound : list_all is_sound runs ≡ true
unfolding runs
table_sound = refl

-- An address names a place if and only if the search finds that place.
pub found-named : (a : ℕ) (p : Place) → (place_among runs a ≡ Some p) ↔ Names a p
found-named a p = (λ e. found_is_named runs a p table_sound e, λ n. named_is_found runs a p table_sound table_apart n)

none_when_free : (o : Option Place) → ((p : Place) → o ≡ Some p → ⊥) → o ≡ None
none_when_free None free = refl
none_when_free (Some p) free = absurd (free p refl)

none_or_some : {A : Type 0} (o : Option A) (x : A) → o ≡ None → o ≡ Some x → ⊥
none_or_some o x n s = cc

-- The search finds no place if and only if the address names no place.
pub missed-free : (a : ℕ) → (place_among runs a ≡ None) ↔ ((p : Place) → Names a p → ⊥)
missed-free a = (
  λ e p n. none_or_some (place_among runs a) p e ((found-named a p).1 n),
  λ free. none_when_free (place_among runs a) (λ p e. free p ((found-named a p).0 e)),
)

-- No address has two places.
pub one_place : (a : ℕ) (p q : Place) → Names a p → Names a q → p ≡ q
one_place a p q n m = Some-one (sym ((found-named a p).1 n) ∙ (found-named a q).1 m)
