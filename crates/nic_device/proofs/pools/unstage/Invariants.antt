use Rattle.std.proofs.Common.{◌≡◌}
use Rattle.nic_device.specs.PoolReset.{unstaged}
use Rattle.nic_device.proofs.pools.unstage.Given as goal

abbrev pub invariant-loop-x : goal.invariant-loop-x
invariant-loop-x l = l.staged ≡ unstaged l.initial.staged l.first l.x
