use Rattle.std.proofs.Common.{◌≡◌, ◌+◌, length}
use Rattle.pmd_access.specs.Begun.{BeganAs}
use Rattle.pmd_access.specs.Home.{AreOut, Brings}
use Rattle.pmd_access.proofs.home.Reclaim.bring.Given as goal

abbrev pub invariant-loop-count : goal.invariant-loop-count
invariant-loop-count g l =
    BeganAs g.N.Nic.began l.fn.nic l.nic × AreOut l.arena l.self.lent
    × (length l.self.lent + l._count ≡ length l.fn.self.lent)
    × Brings l._count (record { made = g.N.Nic.made l.fn.nic; arena = l.fn.arena; way = l.fn.self })
    (record { made = g.N.Nic.made l.nic; arena = l.arena; way = l.self })
    × (g.N.Nic.refuses l.nic ≡ g.N.Nic.refuses l.fn.nic)
