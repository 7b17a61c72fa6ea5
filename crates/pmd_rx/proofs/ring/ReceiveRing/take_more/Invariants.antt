use Rattle.std.proofs.Common.{None}
use Rattle.pmd_access.specs.Asks.{Asks}
use Rattle.pmd_rx.specs.Acts.{Gathers}
use Rattle.pmd_rx.proofs.ring.ReceiveRing.take_more.Given as goal

abbrev pub invariant-loop-packet : goal.invariant-loop-packet
invariant-loop-packet g l = record {
  asks : Asks g.N.Nic.began g.N.Nic.refuses None l.fn.nic l.nic;
  gathers : Gathers None (g.N.Nic.made l.fn.nic) l.fn.arena l.fn.self (g.N.Nic.made l.nic) l.arena l.self;
}
