use Rattle.std.proofs.Common.{◌∙◌, sym, arith}
use Rattle.rx_filter.proofs.Finding.{first_match-some, first_match-none}
use Rattle.rx_filter.proofs.address.first_match.Goals as goal

pub returns-then-matches-clause-first : goal.returns-then-matches-clause-first
returns-then-matches-clause-first c =
    sym (first_match-some c.args.registers.now c.args.frame.now c.loop-index.index (omega arith)
    (sym c.matches.ensures ∙ c.if-matches.true) c.loop-index.invariant)

pub returns-clause-first : goal.returns-clause-first
returns-clause-first c =
    sym (first_match-none c.args.registers.now c.args.frame.now (λ i h. c.loop-index.invariant i (omega arith)))
