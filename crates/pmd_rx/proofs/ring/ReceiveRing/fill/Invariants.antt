use Rattle.std.proofs.Common.{◌≡◌, []}
use Rattle.pmd_access.specs.Begun.{BeganAs}
use Rattle.pmd_rx.specs.Filling.{PostsSome}
use Rattle.pmd_rx.specs.Keeping.{Keeps}
use Rattle.pmd_rx.specs.Plays.{PlaysFrom}
use Rattle.pmd_rx.proofs.ring.ReceiveRing.fill.Given as goal

abbrev pub invariant-loop-count : goal.invariant-loop-count
invariant-loop-count g l = record {
  began : BeganAs g.N.Nic.began l.fn.nic l.nic;
  refuses : g.N.Nic.refuses l.nic ≡ g.N.Nic.refuses l.fn.nic;
  plays : PlaysFrom l.fn.arena (g.N.Nic.made l.fn.nic) l.fn.self (g.N.Nic.made l.nic) l.self;
  posts : PostsSome l._count l.fn.arena l.fn.self l.arena l.self;
  keeps : Keeps l.fn.arena l.fn.self l.arena l.self [];
}
