use Rattle.std.proofs.Common.{◌∙◌, ◌+◌, ap, arith, refl, sym}
use Rattle.pmd_access.proofs.Asking.{asks_none, asks_then}
use Rattle.pmd_tx.proofs.Acting.{continues_none, continues_then}
use Rattle.pmd_tx.proofs.ring.TransmitRing.ask_waiting.Goals as goal

pub loop-asked-init : goal.loop-asked-init
loop-asked-init g c = record {
  asks = asks_none;
  continues = continues_none;
  poked = sym c.asked-asked.ensures.asked;
  low = omega (arith, c.asked-asked.ensures.asked);
  tail = refl;
  still = λ settled. (refl, refl);
}

pub loop-asked-preserved : goal.loop-asked-preserved
loop-asked-preserved g c = record {
  asks = asks_then c.loop-asked.invariant.asks c.in-Ok.ensures.asks;
  continues = continues_then c.loop-asked.invariant.continues c.in-Ok.ensures.continues;
  poked = c.in-Ok.ensures.asked ∙ ap (λ n. n + 1) c.loop-asked.invariant.poked;
  low = omega (arith, c.loop-asked.invariant.low);
  tail = c.ask_next.ensures.tail ∙ c.loop-asked.invariant.tail;
  still = λ settled.
      absurd (omega (
        arith,
        settled,
        c.asked-asked.ensures.asked,
        c.asked-asked.ensures.posted,
        c.loop-asked.invariant.low,
        c.loop-asked-test,
        c.count-asked-end.ensures.count,
      ));
}

pub returns-in-Err-clause-continues : goal.returns-in-Err-clause-continues
returns-in-Err-clause-continues g c = continues_then c.loop-asked.invariant.continues c.in-Err.ensures.continues
