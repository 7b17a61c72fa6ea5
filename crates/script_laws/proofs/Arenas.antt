-- Proves at which block numbers an arena can be split.
use Rattle.std.proofs.Common.{◌≡◌, ℕ, ◌+◌, ◌-◌, true, refl, arith}
use Rattle.std.proofs.lemmas.List.{length-replicate}
use Rattle.script_laws.specs.Arenas.{IsSplit, ArenasAreSplit}

split_one : (first count at : ℕ) → IsSplit first count at
split_one first count at = record {
  inside = rw (length-replicate count true) (λ h. h, λ h. h);
  below = λ past n.
      let whole : first + (at - first) ≡ at = omega (arith, past) in
      rw (length-replicate (at - first) true, whole) refl;
  above = λ within n.
      let whole : at + (first + count - at) ≡ first + count = omega (arith, within) in
      rw (length-replicate count true, length-replicate (first + count - at) true, whole) refl;
}

pub split_so : ArenasAreSplit
split_so first count at = split_one first count at
