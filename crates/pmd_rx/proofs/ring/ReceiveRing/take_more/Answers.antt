use Rattle.std.proofs.Common.{None}
use Rattle.pmd_access.proofs.Asking.{asks_none, asks_then}
use Rattle.pmd_access.proofs.Exchanging.{out_kept}
use Rattle.pmd_rx.specs.Keeping.{blocks_out}
use Rattle.pmd_rx.proofs.Acting.{gathers_none, gathers_on, gathers_then}
use Rattle.pmd_rx.proofs.ring.ReceiveRing.take_more.Goals as goal

pub loop-packet-init : goal.loop-packet-init
loop-packet-init g c = record { asks = asks_none; gathers = gathers_none None tt }

pub take_next-requires-clause-home : goal.take_next-requires-clause-home
take_next-requires-clause-home g c =
    out_kept c.args.arena.now (blocks_out c.args.self.now) c.loop-packet.arena (blocks_out c.loop-packet.self)
    c.requires.home c.loop-packet.invariant.gathers.keeps.arena

pub returns-in-Ok-false-clause-gathers : goal.returns-in-Ok-false-clause-gathers
returns-in-Ok-false-clause-gathers g c =
    gathers_then c.loop-packet.invariant.gathers (λ short. cc) (gathers_on c.take_next.ensures.gathers)

pub returns-in-Err-clause-gathers : goal.returns-in-Err-clause-gathers
returns-in-Err-clause-gathers g c =
    gathers_then c.loop-packet.invariant.gathers (λ short. cc) (gathers_on c.take_next.ensures.gathers)

pub loop-packet-preserved : goal.loop-packet-preserved
loop-packet-preserved g c = record {
  asks = asks_then c.loop-packet.invariant.asks c.in-Ok-true.ensures.asks;
  gathers = gathers_then c.loop-packet.invariant.gathers (λ short. cc) (gathers_on c.take_next.ensures.gathers);
}
