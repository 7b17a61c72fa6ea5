use Rattle.std.proofs.Common.{◌≡◌, ◌≤◌, length, None}
use Rattle.pmd_access.specs.Asks.{Asks}
use Rattle.pmd_rx.specs.Acts.{GathersAlone}
use Rattle.pmd_rx.specs.Keeping.{IsRunning}
use Rattle.pmd_rx.specs.declared.ring.Stage.TheVariants.{Looks}
use Rattle.pmd_rx.proofs.ring.ReceiveRing.look_whole.Given as goal

abbrev pub invariant-loop-look : goal.invariant-loop-look
invariant-loop-look g l = record {
  asks : Asks g.N.Nic.began g.N.Nic.refuses None l.fn.nic l.nic;
  gathers : GathersAlone None (g.N.Nic.made l.fn.nic) l.fn.self (g.N.Nic.made l.nic) l.self;
  kept : l.self ≡ record l.fn.self { seen = l.self.seen; stage = l.self.stage };
  running : IsRunning l.self;
  from : l.self.stage ≡ Looks → l.fn.self.stage ≡ Looks;
  many : l.self.stage ≡ Looks → l._look ≤ length l.self.seen;
}
