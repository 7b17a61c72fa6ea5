use Rattle.std.proofs.Common.{◌≡◌, false, true, arith, refl}
use Rattle.card.proofs.Sharing.{all_free_at_last}
use Rattle.card.proofs.Returning.{none_lent}
use Rattle.card.proofs.card.close.Goals as goal

pub end_memory-requires : goal.end_memory-requires
end_memory-requires c =
    λ number. none_lent c.loop-number.memory c.loop-number.arena number _ c.loop-number.invariant.shared
    (λ small. c.loop-number.invariant.taken number (omega (arith, small, c.loop-number.invariant.count))) refl

pub unreachable-requires : goal.unreachable-requires
unreachable-requires c =
    let all = all_free_at_last c.loop-number.memory c.loop-number.arena c.loop-number.invariant.shared
    (λ number. none_lent c.loop-number.memory c.loop-number.arena number _ c.loop-number.invariant.shared
    (λ small. c.loop-number.invariant.taken number (omega (arith, small, c.loop-number.invariant.count))) refl) in
    let no : false ≡ true = c.in-Err.ensures.ok.1 all in cc
