use Rattle.std.proofs.Common.{◌<◌, ℕ}
use Rattle.device_lock.specs.Closing.{TagStands}
use Rattle.device_lock.proofs.compare.lowest_mismatch.Given as goal

abbrev pub invariant-loop-tag : goal.invariant-loop-tag
invariant-loop-tag l = (tag : ℕ) → tag < l.tag → TagStands l.history tag l.passes
