use Rattle.std.proofs.Common.{◌≡◌, ◌<◌, ℕ}
use Rattle.device_lock.specs.Closing.{tag_count}
use Rattle.device_lock.proofs.compare.is_each_once.Given as goal

abbrev pub invariant-loop-tag : goal.invariant-loop-tag
invariant-loop-tag l = (tag : ℕ) → tag < l.tag → tag_count l.bench tag l.passes ≡ 1
