use Rattle.std.proofs.Common.{◌≤◌, None}
use Rattle.pmd_access.specs.Asks.{Asks}
use Rattle.pmd_tx.specs.Acts.{HasReaped}
use Rattle.pmd_tx.proofs.ring.TransmitRing.reap.Given as goal

abbrev pub invariant-loop-reaped : goal.invariant-loop-reaped
invariant-loop-reaped g l = record {
  asks : Asks g.N.Nic.began g.N.Nic.refuses None l.fn.nic l.nic;
  reaped : HasReaped None (g.N.Nic.made l.fn.nic) l.fn.self l.fn.arena (g.N.Nic.made l.nic) l.self l.arena l._reaped
      l.freed;
  few : l.freed ≤ l._reaped;
}
