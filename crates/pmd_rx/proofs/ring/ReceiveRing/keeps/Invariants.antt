use Rattle.std.proofs.Common.{◌≡◌, take}
use Rattle.pmd_access.specs.NicDevice.DmaArena.Whereabouts.{times_in_hand}
use Rattle.pmd_rx.specs.Keeping.{numbers_of_all}
use Rattle.pmd_rx.proofs.ring.ReceiveRing.keeps.Given as goal

abbrev pub invariant-loop-at : goal.invariant-loop-at
invariant-loop-at l = record {
  none : times_in_hand (numbers_of_all (take l.at l.fn.self.whole)) l.fn.block ≡ 0;
}
