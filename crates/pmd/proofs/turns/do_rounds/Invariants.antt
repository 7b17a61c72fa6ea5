use Rattle.std.proofs.Common.{[], ◌≡◌, ◌+◌, ◌≤◌, length}
use Rattle.rtrb.specs.Ring.{sent, known_free, SameProducer}
use Rattle.pmd_driver.specs.Driver.{handed_of}
use Rattle.pmd_driver.specs.Life.{RunsOn}
use Rattle.pmd_driver.specs.PmdAccess.Begun.{BeganAs}
use Rattle.pmd.specs.Reported.{reports_of}
use Rattle.pmd.specs.Kept.{KeepsAll}
use Rattle.pmd.proofs.turns.do_rounds.Given as goal

abbrev pub invariant-loop : goal.invariant-loop
invariant-loop g l =
    record {
      reported : sent l.producer ≡ reports_of l.queue (handed_of l.pmd.rings);
      ring : SameProducer l.fn.producer l.producer;
      room : l.rounds ≤ known_free l.producer + l.counter;
      few : length (handed_of l.pmd.rings) ≤ l.counter;
      drives : RunsOn (g.N.Nic.made l.fn.nic) l.fn.pmd.rings (g.N.Nic.made l.nic) l.pmd.rings;
      queue : l.pmd.queue ≡ l.fn.pmd.queue;
      blocks : KeepsAll l.fn.pmd.rings [] l.pmd.rings [];
      began : BeganAs g.N.Nic.began l.fn.nic l.nic;
    }
