use Rattle.std.proofs.Common.{◌≡◌, drop}
use Rattle.device_lock.specs.History.{calls_of}
use Rattle.device_lock.proofs.compare.is_silent.Given as goal

abbrev pub invariant-loop-entry : goal.invariant-loop-entry
invariant-loop-entry l = calls_of l.tag l.history ≡ calls_of l.tag (drop l.entry-index l.history)
