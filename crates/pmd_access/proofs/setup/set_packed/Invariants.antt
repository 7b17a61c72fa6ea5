use Rattle.std.proofs.Common.{None}
use Rattle.pmd_access.specs.Asks.{Asks}
use Rattle.pmd_access.specs.Setup.{AreSet, packed}
use Rattle.pmd_access.proofs.setup.set_packed.Given as goal

abbrev pub invariant-loop-index : goal.invariant-loop-index
invariant-loop-index g l =
    Asks g.N.Nic.began g.N.Nic.refuses None l.fn.nic l.nic
    × AreSet (g.N.Nic.made l.fn.nic) (g.N.Nic.made l.nic) (packed l.row l.bytes l.index)
