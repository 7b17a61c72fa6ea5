use Rattle.std.proofs.Common.{◌≡◌}
use Rattle.card.specs.Card.{lent_below}
use Rattle.card.proofs.card.Card.lend_all.Given as goal

abbrev pub invariant-loop-block : goal.invariant-loop-block
invariant-loop-block l = l.self ≡ lent_below l.fn.self l.block
