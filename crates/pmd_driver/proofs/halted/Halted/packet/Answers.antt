use Rattle.pmd_driver.specs.Ends.{halted_as}
use Rattle.pmd_driver.specs.Halted.{Halted, all_out}
use Rattle.pmd_driver.proofs.Counted.{fresh_out}
use Rattle.pmd_driver.proofs.halted.Halted.packet.Goals as goal

pub invariant_of-self : goal.invariant_of-self
invariant_of-self c =
    let h : Halted = halted_as c.self.inside.arena c.self.inside.receive c.self.inside.transmit in
    record {
      home = fresh_out _ _ (all_out h) c.args.len c.fresh_packet.result c.fresh_packet.ensures.made
          c.self.invariant.home;
      few = c.self.invariant.few;
    }

pub returns-clause-none : goal.returns-clause-none
returns-clause-none c = rw (← c.self.view_is) c.fresh_packet.ensures.none

pub returns-clause-made : goal.returns-clause-made
returns-clause-made c = rw (← c.self.view_is) c.fresh_packet.ensures.made
