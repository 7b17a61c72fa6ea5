use Rattle.std.proofs.Common.{[]}
use Rattle.pmd_driver.specs.Running.{Running, rings_out}
use Rattle.pmd_driver.proofs.Counted.{fresh_kept, fresh_out}
use Rattle.pmd_driver.proofs.running.Running.packet.Goals as goal

pub invariant_of-self : goal.invariant_of-self
invariant_of-self c =
    let q : Running = record {
      arena = c.self.inside.arena;
      receive = c.self.inside.receive;
      transmit = c.self.inside.transmit;
    } in
    record {
      home = fresh_out _ _ (rings_out q) c.args.len c.fresh_packet.result c.fresh_packet.ensures.made
          c.self.invariant.home;
      filled = c.self.invariant.filled;
      some = c.self.invariant.some;
    }

pub returns-clause-owns : goal.returns-clause-owns
returns-clause-owns c =
    rw (← c.self.view_is)
    (fresh_kept _ _ [] c.args.len c.fresh_packet.result c.fresh_packet.ensures.made).owns

pub returns-clause-blocks : goal.returns-clause-blocks
returns-clause-blocks c =
    rw (← c.self.view_is) (fresh_kept _ _ _ c.args.len c.fresh_packet.result c.fresh_packet.ensures.made)

pub returns-clause-none : goal.returns-clause-none
returns-clause-none c = rw (← c.self.view_is) c.fresh_packet.ensures.none

pub returns-clause-made : goal.returns-clause-made
returns-clause-made c = rw (← c.self.view_is) c.fresh_packet.ensures.made
