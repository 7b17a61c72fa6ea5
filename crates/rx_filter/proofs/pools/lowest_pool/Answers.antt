use Rattle.std.proofs.Common.{◌∙◌, sym, arith}
use Rattle.rx_filter.proofs.Finding.{lowest_pool-some, lowest_pool-none}
use Rattle.rx_filter.proofs.pools.lowest_pool.Goals as goal

pub returns-then-selects-clause-lowest : goal.returns-then-selects-clause-lowest
returns-then-selects-clause-lowest c =
    sym (lowest_pool-some c.args.registers.now c.args.index c.loop-pool.pool (omega arith)
    (sym c.selects.ensures ∙ c.if-selects.true) c.loop-pool.invariant)

pub returns-clause-lowest : goal.returns-clause-lowest
returns-clause-lowest c =
    sym (lowest_pool-none c.args.registers.now c.args.index (λ i h. c.loop-pool.invariant i (omega arith)))
