-- Lemmas about taking a block and giving it back, and about splitting an arena.
use Rattle.std.proofs.Common.{◌≡◌, ℕ, zero, suc, ◌+◌, ◌-◌, Bool, true, false, List, [], ◌∷◌, length, set, get_or, refl, sym, ap, ◌∙◌, arith, ◌||◌}
use Rattle.std.specs.Prelude.{nat_le, ◌||◌}
use Rattle.std.proofs.lemmas.Bool.{and_parts}
use Rattle.std.proofs.lemmas.Bool.Decides.{nat_tests}
use Rattle.std.proofs.lemmas.List.{length-replicate}
use Rattle.dma_arena.specs.Numbers.{Numbers, is_own, is_free, are_all_free, numbers_below, numbers_from, IsInside}
use Rattle.dma_arena.specs.Laws.{GivenBack, CutLaw, PartsNumbers}
use Rattle.dma_arena.specs.Memory.{Memory, has_block}
use Rattle.dma_arena.specs.Whereabouts.{times_in_hand, EachOnce}
use Rattle.dma_arena.proofs.Arenas.{is_free-all_free, CountsFree-numbers}
use Rattle.dma_arena.proofs.Counts.{reported}

-- A number that is taken and given back.

set_back : (xs : List Bool) (k : ℕ) → get_or xs k false ≡ true → set (set xs k false) k true ≡ xs
set_back [] k marked = cc
set_back (x ∷ xs) zero marked = rw marked refl
set_back (x ∷ xs) (suc k) marked = ap (λ ys. x ∷ ys) (set_back xs k marked)

pub given_back : GivenBack
given_back a number free =
    let k : ℕ = number - a.first in
    let marked : get_or a.free k false ≡ true = (and_parts (nat_le a.first number) (get_or a.free k false) free).1 in
    ap (λ (xs : List Bool). let b : Numbers = record { first = a.first; free = xs } in b) (set_back a.free k marked)

-- A split.

pub cut_law : CutLaw
cut_law a at inside =
    let below = length-replicate (at - a.first) true in
    let above = length-replicate (a.first + length a.free - at) true in
    record {
      each = λ number. rw (below, above) (grind (arith, nat_tests));
      once = λ number. rw (below, above) (grind (arith, nat_tests));
    }

or_true : (x : Bool) → (x || true) ≡ true
or_true true = refl
or_true false = refl

-- Assume that an arena's numbers are all free, and that the numbers of a part belong to the arena and are free in the
-- part. If each block of the arena is in exactly one place, each block of the part is in exactly one place.
part_case : (a part : Numbers) (hand : List ℕ) (m : Memory) → are_all_free a ≡ true → EachOnce a hand m
    → ((k : ℕ) → is_own part k ≡ true → (is_own a k ≡ true) × (is_free part k ≡ true)) → EachOnce part hand m
part_case a part hand m all once within k own =
    let there = within k own in
    let free : is_free a k ≡ true = (CountsFree-numbers a).all.0 all k there.0 in
    reported (is_free part k) (is_free a k) (times_in_hand hand k) (times_in_hand hand k) (has_block m k)
    (has_block m k)
    (there.1 ∙ sym free) refl refl (once k there.0)

pub split_case : (a : Numbers) (hand : List ℕ) (m : Memory) (at : ℕ)
    → are_all_free a ≡ true → IsInside a at → EachOnce a hand m
    → EachOnce (numbers_below a at) hand m × EachOnce (numbers_from a at) hand m
split_case a hand m at all inside once =
    let parts : PartsNumbers a at = cut_law a at inside in (
      part_case a (numbers_below a at) hand m all once
          (λ k own. (parts.each k ∙ rw own refl, is_free-all_free a.first (at - a.first) k ∙ own)),
      part_case a (numbers_from a at) hand m all once
          (λ k own. (parts.each k ∙ rw own (or_true _), is_free-all_free at (a.first + length a.free - at) k ∙ own)),
    )
