-- The dispatch returns `None` for an address that no run has.
use Rattle.std.proofs.Common.{◌≡◌, ℕ, ◌+◌, ◌-◌, ◌*◌, ◌/◌, ◌%◌, ◌<◌, ◌≤◌, Bool, true, false, ◌&&◌, ◌||◌, nat_lt, nat_le, ◌==◌, List, [], ◌∷◌, None, refl, ap, ◌∙◌, inl, inr, arith}
use Rattle.std.specs.List.{list_all}
use Rattle.std.proofs.lemmas.Bool.{and_parts, or_cases, ltb-true, leb-true, eqb-true, false_from_ne_true}
use Rattle.std.proofs.Math.Nat.{add-mul-mod_self_left, div-add-mod, mul_assoc}
use Rattle.reg_table.specs.Run.{Run, has_address}
use Rattle.reg_table.specs.Runs.{runs}
use Rattle.reg_table.specs.Place.{place_among, view_among}
use Rattle.reg_table.specs.Access.{access_of, access_at}
use Rattle.reg_table.proofs.Steps.{last, starts_after, in_step, ends_before}

-- Whether the run has no address that is in one range and whose remainder modulo `m` is in another range.
abbrev pub misses : ℕ → ℕ → ℕ → ℕ → ℕ → Run → Bool
misses low high m x y r =
    nat_lt (last r) low || nat_le high r.first
    || ((r.stride % m == 0) && (nat_lt (r.first % m) x || nat_le y (r.first % m)))

rest_of_run : (m first stride a : ℕ) → stride % m ≡ 0 → first ≤ a → (a - first) % stride ≡ 0 → a % m ≡ first % m
rest_of_run m first stride a e l w =
    let split : stride * ((a - first) / stride) + (a - first) % stride ≡ a - first = div-add-mod (a - first) stride in
    let parts : m * (stride / m) + stride % m ≡ stride = div-add-mod stride m in
    let by_m : stride ≡ m * (stride / m) = omega arith in
    let product : stride * ((a - first) / stride) ≡ m * (stride / m * ((a - first) / stride)) =
    ap (λ n. n * ((a - first) / stride)) by_m ∙ mul_assoc m (stride / m) ((a - first) / stride) in
    let whole : a ≡ first + m * (stride / m * ((a - first) / stride)) = omega arith in
    ap (λ n. n % m) whole ∙ add-mul-mod_self_left first m (stride / m * ((a - first) / stride))

missed : (low high m x y a : ℕ) (r : Run) → misses low high m x y r ≡ true → low ≤ a → a < high → x ≤ a % m
    → a % m < y → has_address r a ≡ true → ⊥
missed low high m x y a r t l h from below i =
    let begins = starts_after r a i in
    let ends = ends_before r a i in
    let rest = (r.stride % m == 0) && (nat_lt (r.first % m) x || nat_le y (r.first % m)) in
    elim (or_cases (nat_lt (last r) low || nat_le high r.first) rest t) [
      | inl far ↦ elim (or_cases (nat_lt (last r) low) (nat_le high r.first) far) [
        | inl u ↦ let v = ltb-true _ _ u in absurd (omega arith)
        | inr u ↦ let v = leb-true _ _ u in absurd (omega arith)
      ]
      | inr u ↦ let both = and_parts (r.stride % m == 0) (nat_lt (r.first % m) x || nat_le y (r.first % m)) u in
          let same = rest_of_run m r.first r.stride a (eqb-true _ _ both.0) begins (in_step r a i) in
          elim (or_cases (nat_lt (r.first % m) x) (nat_le y (r.first % m)) both.1) [
            | inl v ↦ let w = ltb-true _ _ v in absurd (omega arith)
            | inr v ↦ let w = leb-true _ _ v in absurd (omega arith)
          ]
    ]

none_has : (rs : List Run) (low high m x y a : ℕ) → list_all (misses low high m x y) rs ≡ true
    → low ≤ a → a < high → x ≤ a % m → a % m < y → place_among rs a ≡ None
none_has [] low high m x y a t l h from below = refl
none_has (r ∷ rs) low high m x y a t l h from below =
    let u = and_parts (misses low high m x y r) (list_all (misses low high m x y) rs) t in
    let no : has_address r a ≡ false =
    false_from_ne_true (has_address r a) (missed low high m x y a r u.0 l h from below) in
    rw no (none_has rs low high m x y a u.1 l h from below)

pub no_steps_at : (m x y low high : ℕ) (a : ℕ) → list_all (misses low high m x y) runs ≡ true
    → low ≤ a → a < high → x ≤ a % m → a % m < y → access_at a ≡ None
no_steps_at m x y low high a t l h from below =
    ap (λ o. access_of o (view_among runs a)) (none_has runs low high m x y a t l h from below)

pub no_words_at : (low high : ℕ) (a : ℕ) → list_all (misses low high 1 0 1) runs ≡ true → low ≤ a → a < high
    → access_at a ≡ None
no_words_at low high a t l h = no_steps_at 1 0 1 low high a t l h (omega arith) (omega arith)
