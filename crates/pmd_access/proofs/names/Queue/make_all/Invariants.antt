use Rattle.std.proofs.Common.{None, take}
use Rattle.pmd_access.specs.Asks.{Asks}
use Rattle.pmd_access.specs.QueueMade.{AreMade}
use Rattle.pmd_access.proofs.names.Queue.make_all.Given as goal

abbrev pub invariant-loop-access : goal.invariant-loop-access
invariant-loop-access g l =
    Asks g.N.Nic.began g.N.Nic.refuses None l.fn.nic l.nic
    × AreMade l.self (g.N.Nic.made l.fn.nic) (g.N.Nic.made l.nic) (take l.access-index l.accesses)
