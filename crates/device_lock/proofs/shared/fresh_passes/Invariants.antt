use Rattle.std.proofs.Common.{◌≡◌, vec_len}
use Rattle.device_lock.specs.Pass.{AreFresh}
use Rattle.device_lock.proofs.shared.fresh_passes.Given as goal

abbrev pub invariant-loop-tag : goal.invariant-loop-tag
invariant-loop-tag l = (vec_len l.passes ≡ l.tag) × AreFresh l.bench 0 l.passes.items
