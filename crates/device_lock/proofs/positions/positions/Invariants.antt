use Rattle.std.proofs.Common.{◌≡◌, take}
use Rattle.device_lock.specs.Positions.{positions_of}
use Rattle.device_lock.proofs.positions.positions.Given as goal

abbrev pub invariant-loop-at : goal.invariant-loop-at
invariant-loop-at l = l.places.items ≡ positions_of l.tag (take l.at l.history)
