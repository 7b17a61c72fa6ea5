use Rattle.std.proofs.Common.{◌≡◌}
use Rattle.pmd_access.specs.Begun.{BeganAs}
use Rattle.pmd_access.specs.QueueMade.{AreMade}
use Rattle.pmd_access.specs.Sides.{missed}
use Rattle.pmd_access.proofs.names.Queue.poll.Given as goal

abbrev pub invariant-loop-misses : goal.invariant-loop-misses
invariant-loop-misses g l =
    BeganAs g.N.Nic.began l.fn.nic l.nic
    × AreMade l.self (g.N.Nic.made l.fn.nic) (g.N.Nic.made l.nic) (missed l.side l.on l.misses)
    × (g.N.Nic.refuses l.nic ≡ g.N.Nic.refuses l.fn.nic)
