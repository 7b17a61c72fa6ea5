-- Each address that has a register is listed by hand.
use Rattle.std.proofs.Common.{◌≡◌, ℕ, ◌+◌, ◌*◌, ◌<◌, Bool, true, ◌==◌, ◌&&◌, ◌||◌, nat_lt, List, [], ◌∷◌, Option, Some, None, refl, ap, sym, ◌∙◌, ◌⊎◌, inl, inr, arith}
use Rattle.std.specs.List.{list_all, list_any, range_with_len}
use Rattle.std.proofs.lemmas.Bool.{and_parts, or_cases, ltb-true, eqb-true}
use Rattle.std.proofs.lemmas.Option.{same_Some}
use Rattle.reg_table.specs.Place.{SomeRunHas, place_among, view_among}
use Rattle.reg_table.specs.Run.{Run, HasPlaceAt}
use Rattle.reg_table.proofs.Finding.{found-named}
use Rattle.vf_map.proofs.Owners.{at_number}
use Rattle.datasheet_laws.specs.NumberPrelude.{Access, Place, access_of, runs}
use Rattle.datasheet_laws.specs.Table.{Series, IsAmong, IsFirst, further_addresses, line_of, OtherAddressesMeetNone}

-- Whether step k of a run is the first address in the line.
is_first : Run → (k : ℕ) → Bool
is_first r k =
    nat_lt (r.first_index + k) (line_of r.row).count
    && ((line_of r.row).address (r.first_index + k) == r.first + r.stride * k)

is_same : Run → Series → Bool
is_same r s = (s.first == r.first) && (s.step == r.stride) && (s.count == r.count)

is_listed : Run → Bool
is_listed r = list_all (is_first r) (range_with_len 0 r.count) || list_any (is_same r) further_addresses

all_listed : list_all is_listed runs ≡ true
unfolding runs is_listed is_first is_same
all_listed = refl

first_there : (r : Run) (a : ℕ) (p : Place) → list_all (is_first r) (range_with_len 0 r.count) ≡ true
    → HasPlaceAt r a p → IsFirst a p
unfolding is_first
first_there r a p firsts h =
    let below : h.step < 0 + r.count = omega (arith, h.below) in
    let both = and_parts (nat_lt (r.first_index + h.step) (line_of r.row).count)
    ((line_of r.row).address (r.first_index + h.step) == r.first + r.stride * h.step)
    (at_number (is_first r) 0 r.count h.step firsts (omega arith) below) in
    rw (h.row, h.index) (ltb-true _ _ both.0, h.at ∙ sym (eqb-true _ _ both.1))

further_there : (ss : List Series) (r : Run) (a : ℕ) (p : Place) → list_any (is_same r) ss ≡ true
    → HasPlaceAt r a p → IsAmong ss a
unfolding is_same
further_there [] r a p e h = cc
further_there (s ∷ ss) r a p e h =
    elim (or_cases (is_same r s) (list_any (is_same r) ss) e) [
      | inl same ↦
          let two = and_parts ((s.first == r.first) && (s.step == r.stride)) (s.count == r.count) same in
          let one = and_parts (s.first == r.first) (s.step == r.stride) two.0 in
          let first : r.first ≡ s.first = sym (eqb-true _ _ one.0) in
          let step : r.stride ≡ s.step = sym (eqb-true _ _ one.1) in
          let count : s.count ≡ r.count = eqb-true _ _ two.1 in
          let below : h.step < s.count = omega (arith, count, h.below) in
          inl (h.step, (below, h.at ∙ ap (λ n. n + r.stride * h.step) first ∙ ap (λ n. s.first + n * h.step) step))
      | inr more ↦ inr (further_there ss r a p more h)
    ]

there : (rs : List Run) → list_all is_listed rs ≡ true → (a : ℕ) (p : Place) → SomeRunHas rs a p
    → IsFirst a p ⊎ IsAmong further_addresses a
unfolding is_listed
there [] e a p n = absurd n
there (r ∷ rs) e a p (inl h) =
    elim (or_cases (list_all (is_first r) (range_with_len 0 r.count)) (list_any (is_same r) further_addresses)
    (and_parts (is_listed r) (list_all is_listed rs) e).0) [
      | inl firsts ↦ inl (first_there r a p firsts h)
      | inr same ↦ inr (further_there further_addresses r a p same h)
    ]
there (r ∷ rs) e a p (inr n) = there rs (and_parts (is_listed r) (list_all is_listed rs) e).1 a p n

place_of : (o : Option Place) (view : ℕ) (a : Access) → access_of o view ≡ Some a → o ≡ Some a.place
place_of None view a e = cc
place_of (Some p) view a e = ap (λ (x : Access). Some x.place) (same_Some _ _ e)

pub others : OtherAddressesMeetNone
others address a e =
    there runs all_listed address a.place
    ((found-named address a.place).0 (place_of (place_among runs address) (view_among runs address) a e))
