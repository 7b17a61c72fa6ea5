use Rattle.std.proofs.Common.{None, take}
use Rattle.pmd_access.specs.Asks.{Asks}
use Rattle.pmd_access.specs.Parts.{all_settings}
use Rattle.pmd_access.specs.Setup.{AreSet}
use Rattle.pmd_access.proofs.setup.pf_setup.Given as goal

abbrev pub invariant-loop-part : goal.invariant-loop-part
invariant-loop-part g l =
    Asks g.N.Nic.began g.N.Nic.refuses None l.fn.nic l.nic
    × AreSet (g.N.Nic.made l.fn.nic) (g.N.Nic.made l.nic) (all_settings (take l.part-index l.parts))
