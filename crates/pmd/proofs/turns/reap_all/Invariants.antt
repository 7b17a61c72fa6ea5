use Rattle.std.proofs.Common.{[], ◌≡◌}
use Rattle.pmd_driver.specs.Driver.{handed_of}
use Rattle.pmd_driver.specs.Life.{RunsOn}
use Rattle.pmd_driver.specs.PmdAccess.Begun.{BeganAs}
use Rattle.pmd.specs.Kept.{KeepsAll}
use Rattle.pmd.proofs.turns.reap_all.Given as goal

abbrev pub invariant-loop : goal.invariant-loop
invariant-loop g l =
    record {
      handed : handed_of l.pmd.rings ≡ handed_of l.fn.pmd.rings;
      drives : RunsOn (g.N.Nic.made l.fn.nic) l.fn.pmd.rings (g.N.Nic.made l.nic) l.pmd.rings;
      queue : l.pmd.queue ≡ l.fn.pmd.queue;
      blocks : KeepsAll l.fn.pmd.rings [] l.pmd.rings [];
      began : BeganAs g.N.Nic.began l.fn.nic l.nic;
    }
