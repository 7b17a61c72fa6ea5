-- A run has one place at each of its addresses.
use Rattle.std.proofs.Common.{◌≡◌, ℕ, ◌+◌, ◌-◌, ◌*◌, ◌/◌, ◌%◌, ◌<◌, ◌≤◌, true, refl, sym, arith}
use Rattle.std.proofs.lemmas.Bool.{and_from, le-leb, eq-eqb}
use Rattle.std.proofs.lemmas.Bool.Decides.{nat_tests}
use Rattle.std.proofs.Math.Nat.{div-add-mod, mul-le-mul_left, div-le_of_le-mul, mul-mod_right, mul-div_cancel_left}
use Rattle.reg_table.specs.declared.place.Place.{Place}
use Rattle.reg_table.specs.Run.{Run, HasPlaceAt, has_address, place_in}
use Rattle.reg_table.proofs.SoundRuns.{is_sound}

-- The last address of a run.
abbrev pub last : Run → ℕ
last r = r.first + r.stride * (r.count - 1)

pub starts_after : (r : Run) (a : ℕ) → has_address r a ≡ true → r.first ≤ a
starts_after r a h = grind (arith, nat_tests)

pub ends_before : (r : Run) (a : ℕ) → has_address r a ≡ true → a ≤ last r
ends_before r a h = grind (arith, nat_tests)

pub in_step : (r : Run) (a : ℕ) → has_address r a ≡ true → (a - r.first) % r.stride ≡ 0
in_step r a h = grind (arith, nat_tests)

sound_stride : (r : Run) → is_sound r ≡ true → 0 < r.stride
sound_stride r s = grind (arith, nat_tests)

sound_count : (r : Run) → is_sound r ≡ true → 0 < r.count
sound_count r s = grind (arith, nat_tests)

steps_below : (first stride count a : ℕ) → first ≤ a → a ≤ first + stride * (count - 1) → 0 < count
    → (a - first) / stride < count
steps_below first stride count a l h c =
    let m : (a - first) / stride ≤ count - 1 = div-le_of_le-mul stride (omega arith) in omega arith

-- At each of its addresses, a run has the place that `place_in` returns.
pub HasPlaceAt-place_in : (r : Run) (a : ℕ) → is_sound r ≡ true → has_address r a ≡ true → HasPlaceAt r a (place_in r a)
HasPlaceAt-place_in r a s h =
    let low = starts_after r a h in
    let whole = in_step r a h in
    let split : r.stride * ((a - r.first) / r.stride) + (a - r.first) % r.stride ≡ a - r.first =
    div-add-mod (a - r.first) r.stride in
    record {
      step = (a - r.first) / r.stride;
      below = steps_below r.first r.stride r.count a low (ends_before r a h) (sound_count r s);
      at = omega arith;
      row = refl;
      index = refl;
    }

no_further : (stride step count : ℕ) → step < count → stride * step ≤ stride * (count - 1)
no_further stride step count h = let m : step ≤ count - 1 = omega arith in mul-le-mul_left stride m

take_first : (first n : ℕ) → first + n - first ≡ n
take_first first n = omega arith

pub has_address-true : (r : Run) (a : ℕ) (p : Place) → HasPlaceAt r a p → has_address r a ≡ true
has_address-true r a p i =
    let far = no_further r.stride i.step r.count i.below in
    let low : r.first ≤ a = omega arith in
    let high : a ≤ last r = omega arith in
    let whole : (a - r.first) % r.stride ≡ 0 = rw (i.at, take_first) (mul-mod_right r.stride i.step) in
    and_from _ _ (and_from _ _ (le-leb _ _ low) (le-leb _ _ high)) (eq-eqb _ _ whole)

-- A run has only one place at an address.
pub place_in-unique : (r : Run) (a : ℕ) (p : Place) → is_sound r ≡ true → HasPlaceAt r a p → place_in r a ≡ p
place_in-unique r a p s i =
    let steps_is : (a - r.first) / r.stride ≡ i.step =
    rw (i.at, take_first) (mul-div_cancel_left i.step (sound_stride r s)) in
    let index_is : r.first_index + (a - r.first) / r.stride ≡ p.index = rw steps_is (sym i.index) in
    λ k. record { row = sym i.row k; index = index_is k }
