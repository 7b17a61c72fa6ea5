use Rattle.std.proofs.Common.{◌≡◌, ◌≤◌, None, length}
use Rattle.pmd_access.specs.Asks.{Asks}
use Rattle.pmd_tx.specs.Acts.{Continues}
use Rattle.pmd_tx.proofs.ring.TransmitRing.ask_waiting.Given as goal

abbrev pub invariant-loop-asked : goal.invariant-loop-asked
invariant-loop-asked g l = record {
  asks : Asks g.N.Nic.began g.N.Nic.refuses None l.initial.nic l.nic;
  continues : Continues None (g.N.Nic.made l.initial.nic) l.initial.self (g.N.Nic.made l.nic) l.self;
  poked : l.self.poked ≡ l._asked;
  low : l.initial.self.poked ≤ l._asked;
  tail : l.self.posted ≡ l.initial.self.posted;
  still :
      l.initial.self.posted ≡ length l.initial.self.outstanding
      → (g.N.Nic.made l.nic ≡ g.N.Nic.made l.initial.nic) × (l.self ≡ l.initial.self);
}
