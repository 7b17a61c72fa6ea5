use Rattle.std.proofs.Common.{◌≡◌, nat_lt, drop}
use Rattle.std.specs.List.{list_any}
use Rattle.pmd_access.specs.NicDevice.DmaArena.Whereabouts.{times_in_hand}
use Rattle.pmd_access.specs.Bufs.{numbers_of}
use Rattle.pmd_rx.specs.Keeping.{blocks_out}
use Rattle.pmd_driver.proofs.running.Running.receives.Given as goal

abbrev pub invariant-loop-number : goal.invariant-loop-number
invariant-loop-number l =
    list_any (λ n. nat_lt 0 (times_in_hand (blocks_out l.self.receive) n)) (numbers_of l.bufs)
    ≡ list_any (λ n. nat_lt 0 (times_in_hand (blocks_out l.self.receive) n)) (drop l.number (numbers_of l.bufs))
