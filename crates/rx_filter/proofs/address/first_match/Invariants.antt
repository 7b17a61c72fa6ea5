use Rattle.std.proofs.Common.{◌≡◌, ℕ, ◌<◌, false}
use Rattle.rx_filter.specs.Address.{matches}
use Rattle.rx_filter.proofs.address.first_match.Given as goal

-- No address checked so far matches.
abbrev pub invariant-loop-index : goal.invariant-loop-index
invariant-loop-index l = (i : ℕ) → i < l.index → matches l.registers l.frame i ≡ false
