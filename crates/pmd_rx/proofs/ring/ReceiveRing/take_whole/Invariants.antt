use Rattle.std.proofs.Common.{◌≡◌, ◌<◌, ◌+◌, None}
use Rattle.pmd_access.specs.Asks.{Asks}
use Rattle.pmd_rx.specs.Acts.{Gathers}
use Rattle.pmd_rx.specs.Shown.{rounds, OneMore, WaitsStill}
use Rattle.pmd_rx.proofs.ring.ReceiveRing.take_whole.Given as goal

abbrev pub invariant-loop-part : goal.invariant-loop-part
invariant-loop-part g l = record {
  asks : Asks g.N.Nic.began g.N.Nic.refuses None l.fn.nic l.nic;
  gathers : Gathers None (g.N.Nic.made l.fn.nic) l.fn.arena l.fn.self (g.N.Nic.made l.nic) l.arena l.self;
  waits : 0 < rounds l.self → WaitsStill l.fn.arena l.fn.self l.arena l.self;
  more : rounds l.self ≡ 0 → OneMore l.fn.self l.self;
  left : rounds l.self + l._part ≡ rounds l.fn.self;
}
