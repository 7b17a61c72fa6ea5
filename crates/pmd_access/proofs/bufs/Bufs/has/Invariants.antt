use Rattle.std.proofs.Common.{◌≡◌, take}
use Rattle.device_lock.specs.NicDevice.DmaArena.Whereabouts.{times_in_hand}
use Rattle.pmd_access.specs.Bufs.{numbers_of}
use Rattle.pmd_access.proofs.bufs.Bufs.has.Given as goal

abbrev pub invariant-loop-number : goal.invariant-loop-number
invariant-loop-number l = times_in_hand (numbers_of (take l.number l.self)) l.block ≡ 0
