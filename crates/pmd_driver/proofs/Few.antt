-- Lemma: at most as many blocks are out as the arena owns.
use Rattle.std.proofs.Common.{ℕ, ◌+◌, ◌-◌, ◌≤◌, Bool, true, false, cond, List, [], ◌∷◌, length, arith}
use Rattle.std.proofs.lemmas.List.{length-set}
use Rattle.std.proofs.lemmas.List.Sums.{sum_by-cons}
use Rattle.pmd_access.specs.NicDevice.DmaArena.Numbers.{Numbers, free_count, with_free}
use Rattle.pmd_access.proofs.NicDevice.DmaArena.Arenas.{free_count_given}
use Rattle.pmd_access.specs.Home.{AreOut}
use Rattle.pmd_access.proofs.Outside.{out_first, out_given}

few_free : (first : ℕ) (free : List Bool) → free_count (record { first = first; free = free }) ≤ length free
few_free first [] = omega arith
few_free first (true ∷ free) =
    omega (arith, sum_by-cons (λ (x : Bool). cond x 1 0) true free, few_free first free)
few_free first (false ∷ free) =
    omega (arith, sum_by-cons (λ (x : Bool). cond x 1 0) false free, few_free first free)

pub out_few : (a : Numbers) (xs : List ℕ) → AreOut a xs → free_count a + length xs ≤ length a.free
out_few a [] out = omega (arith, few_free a.first a.free)
out_few a (n ∷ xs) out =
    let here = out_first a xs n out in
    omega (
      arith,
      out_few (with_free a n true) xs (out_given a xs n out),
      free_count_given a n here.0 here.1,
      length-set a.free (n - a.first) true,
    )
