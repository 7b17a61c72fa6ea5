use Rattle.std.proofs.Common.{◌≡◌, ℕ, ◌<◌, false}
use Rattle.rx_filter.specs.Pools.{selects}
use Rattle.rx_filter.proofs.pools.lowest_pool.Given as goal

-- No pool checked so far is selected.
abbrev pub invariant-loop-pool : goal.invariant-loop-pool
invariant-loop-pool l = (i : ℕ) → i < l.pool → selects l.registers l.index i ≡ false
