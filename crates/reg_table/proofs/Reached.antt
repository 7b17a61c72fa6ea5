-- The dispatch returns the access of the run that has the address.
use Rattle.std.proofs.Common.{◌≡◌, ℕ, suc, ◌+◌, ◌-◌, ◌*◌, ◌/◌, ◌%◌, ◌<◌, ◌≤◌, Bool, true, ◌&&◌, nat_lt, nat_le, Some, ap, sym, ◌∙◌, inl, inr, arith}
use Rattle.std.proofs.lemmas.Bool.{cases_Bool, and_from, and_parts, le-leb, eq-eqb, ltb-true, leb-true}
use Rattle.std.proofs.lemmas.Bool.Decides.{nat_tests}
use Rattle.std.proofs.Math.Nat.{add-mul-mod_self_left, div-add-mod, mul-le-mul_left, mul_assoc, mul-suc, mul-sub, mul-mod_right}
use Rattle.reg_table.specs.Run.{Run, has_address}
use Rattle.reg_table.specs.Runs.{runs}
use Rattle.reg_table.specs.Access.{access_at}
use Rattle.reg_table.proofs.Steps.{last}
use Rattle.reg_table.proofs.Apart.{table_apart}
use Rattle.reg_table.proofs.Standing.{stands, access_in, first_with}

-- Whether the run has each address from low up to high that is in step with the run.
abbrev pub covers : ℕ → ℕ → Run → Bool
covers low high r = nat_lt r.first (low + r.stride) && nat_le high (last r + r.stride)

next_step : (s a b : ℕ) → a % s ≡ b % s → a < b → a + s ≤ b
next_step s a b e l =
    let x : s * (a / s) + a % s ≡ a = div-add-mod a s in
    let y : s * (b / s) + b % s ≡ b = div-add-mod b s in
    elim (cases_Bool (nat_lt (a / s) (b / s))) [
      | inl t ↦ let u : suc (a / s) ≤ b / s = ltb-true _ _ t in
          let v = mul-le-mul_left s u in let w = mul-suc s (a / s) in omega arith
      | inr f ↦ let u : b / s ≤ a / s = grind (arith, nat_tests) in
          let v = mul-le-mul_left s u in absurd (omega arith)
    ]

-- Suppose that two numbers have the same remainder modulo a step. If the first is at least a lower bound and the second
-- is less than a step above that bound, the second is at most the first.
no_further_back : (s low a b : ℕ) → a % s ≡ b % s → low ≤ a → b < low + s → b ≤ a
no_further_back s low a b e l h =
    elim (cases_Bool (nat_lt a b)) [
      | inl t ↦ let n = next_step s a b e (ltb-true a b t) in absurd (omega arith)
      | inr f ↦ grind (arith, nat_tests)
    ]

whole_steps : (s a b : ℕ) → a % s ≡ b % s → b ≤ a → (a - b) % s ≡ 0
whole_steps s a b e l =
    let x : s * (a / s) + a % s ≡ a = div-add-mod a s in
    let y : s * (b / s) + b % s ≡ b = div-add-mod b s in
    let z = mul-sub s (a / s) (b / s) in
    let whole : a - b ≡ s * (a / s - b / s) = omega arith in
    rw whole (mul-mod_right s (a / s - b / s))

covered : (r : Run) (low high a : ℕ) → covers low high r ≡ true → low ≤ a → a < high
    → a % r.stride ≡ r.first % r.stride → has_address r a ≡ true
covered r low high a c l h e =
    let both = and_parts (nat_lt r.first (low + r.stride)) (nat_le high (last r + r.stride)) c in
    let begins : r.first ≤ a = no_further_back r.stride low a r.first e l (ltb-true _ _ both.0) in
    let ends = leb-true high (last r + r.stride) both.1 in
    let step : last r % r.stride ≡ a % r.stride = add-mul-mod_self_left r.first r.stride (r.count - 1) ∙ sym e in
    let far : a ≤ last r = no_further_back r.stride (last r) (last r) a step (omega arith) (omega arith) in
    let whole = whole_steps r.stride a r.first e begins in
    and_from _ _ (and_from _ _ (le-leb _ _ begins) (le-leb _ _ far)) (eq-eqb _ _ whole)

hit : (r : Run) (low high a : ℕ) → stands r runs ≡ true → covers low high r ≡ true → low ≤ a → a < high
    → a % r.stride ≡ r.first % r.stride
    → access_at a ≡ Some (access_in r a)
hit r low high a s c l h e = first_with r runs a s table_apart (covered r low high a c l h e)

pub words_at : (r : Run) (low high : ℕ) → stands r runs ≡ true → covers low high r ≡ true → r.stride ≡ 4
    → r.first % 4 ≡ 0
    → (a : ℕ) → low ≤ a → a < high → a % 4 ≡ 0 → access_at a ≡ Some (access_in r a)
words_at r low high s c by_four f a l h m = hit r low high a s c l h (rw by_four (m ∙ sym f))

-- Taking the remainder modulo a multiple of 4 keeps the remainder modulo 4.
rest_of_four : (s n : ℕ) → s % 4 ≡ 0 → (n % s) % 4 ≡ n % 4
rest_of_four s n e =
    let x : s * (n / s) + n % s ≡ n = div-add-mod n s in
    let four : s ≡ 4 * (s / 4) = omega arith in
    let product : s * (n / s) ≡ 4 * (s / 4 * (n / s)) = ap (λ t. t * (n / s)) four ∙ mul_assoc 4 (s / 4) (n / s) in
    omega arith

same_rest : (x y : ℕ) → x % 4 ≡ 0 → y % 4 ≡ 0 → x ≤ y → y < x + 4 → y ≡ x
same_rest x y e f l h = omega arith

pub steps_at : (r : Run) (low high : ℕ) → stands r runs ≡ true → covers low high r ≡ true → r.stride % 4 ≡ 0
    → r.first % 4 ≡ 0
    → (a : ℕ) → low ≤ a → a < high → r.first % r.stride ≤ a % r.stride → a % r.stride < r.first % r.stride + 4
    → a % 4 ≡ 0
    → access_at a ≡ Some (access_in r a)
steps_at r low high s c by_four f a l h from below m =
    let x : r.first % r.stride % 4 ≡ 0 = rest_of_four r.stride r.first by_four ∙ f in
    let y : a % r.stride % 4 ≡ 0 = rest_of_four r.stride a by_four ∙ m in
    hit r low high a s c l h (same_rest (r.first % r.stride) (a % r.stride) x y from below)
