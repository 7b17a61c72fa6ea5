use Rattle.std.proofs.Common.{◌≡◌, ◌++◌, take}
use Rattle.device_lock.specs.Calls.{made_calls}
use Rattle.device_lock.specs.History.{calls_of}
use Rattle.device_lock.proofs.compare.stands.Given as goal

abbrev pub invariant-loop-it : goal.invariant-loop-it
invariant-loop-it l =
    calls_of l.tag l.history ≡ made_calls (take l.it-index l.made) ++ calls_of l.tag l.rest
