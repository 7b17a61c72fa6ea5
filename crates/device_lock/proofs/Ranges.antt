-- Lemmas: the blocks that a range touches are the blocks that contain its bytes.
use Rattle.std.proofs.Common.{◌≡◌, ℕ, ◌+◌, ◌-◌, ◌*◌, ◌/◌, ◌%◌, ◌<◌, ◌≤◌, ◌⊎◌, inl, inr, refl, arith}
use Rattle.std.proofs.lemmas.Bool.{ne_eqb, cases_lt}
use Rattle.device_lock.specs.Watching.{touched}

touched_some : (at len : ℕ) → 0 < len
    → touched at len ≡ (at % 2048 + (len - 1) % 2048) / 2048 + (len - 1) / 2048 + 1
touched_some at len some = rw (ne_eqb len 0 (omega arith)) refl

pub inside_touched : (at len a : ℕ) → at ≤ a → a < at + len
    → (at / 2048 ≤ a / 2048) × (a / 2048 < at / 2048 + touched at len)
inside_touched at len a low high = let e = touched_some at len (omega arith) in (omega arith, omega (arith, e))

pub block_has : (at len k : ℕ) → at / 2048 ≤ k → k < at / 2048 + touched at len → (0 < len) ⊎ (len ≤ 0)
    → (a : ℕ) × (at ≤ a) × (a < at + len) × (a / 2048 ≡ k)
block_has at len k low high (inr none) =
    let e : len ≡ 0 = omega arith in
    let z : touched at len ≡ 0 = rw e refl in absurd (omega (arith, z))
block_has at len k low high (inl some) =
    let e = touched_some at len some in
    let end : k ≤ (at + len - 1) / 2048 = omega (arith, e) in
    elim (cases_lt at (2048 * k)) [
      | inl before ↦ (2048 * k, omega arith, omega arith, omega arith)
      | inr from ↦ (at, omega arith, omega arith, omega arith)
    ]
