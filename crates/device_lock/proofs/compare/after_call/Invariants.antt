use Rattle.std.proofs.Common.{◌≡◌, drop}
use Rattle.device_lock.specs.History.{calls_of}
use Rattle.device_lock.proofs.compare.after_call.Given as goal

abbrev pub invariant-loop-at : goal.invariant-loop-at
invariant-loop-at l = calls_of l.tag l.history ≡ calls_of l.tag (drop l.at l.history)
