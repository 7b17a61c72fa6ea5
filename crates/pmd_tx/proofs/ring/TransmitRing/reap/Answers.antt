use Rattle.std.proofs.Common.{◌≡◌, ◌≤◌, Bool, true, false, inl, inr, [], if◌then◌else◌, refl, arith}
use Rattle.std.proofs.lemmas.Bool.{cases_Bool}
use Rattle.pmd_access.proofs.Asking.{asks_then}
use Rattle.pmd_tx.proofs.Acting.{continues_of, reaped_none, reaped_still, reaped_then}
use Rattle.pmd_tx.proofs.Ending.{looks_after}
use Rattle.pmd_tx.proofs.ring.TransmitRing.reap.Goals as goal

at_most_one : (b : Bool) → (if b then 1 else 0) ≤ 1
at_most_one true = omega arith
at_most_one false = omega arith

pub loop-reaped-init : goal.loop-reaped-init
loop-reaped-init g c =
    let first = c.flush.ensures in
    record {
      asks = record { began = first.began; refuses = first.refuses; refusal = tt };
      reaped = reaped_none (continues_of first.plays tt (λ blocks. tt) first.kept first.layout)
          c.in-Ok.ensures.settled c.requires;
      few = omega arith;
    }

pub loop-reaped-preserved : goal.loop-reaped-preserved
loop-reaped-preserved g c =
    let from : c.from-freed.result ≡ (if c.in-Ok-Some.end then 1 else 0) = elim (cases_Bool c.in-Ok-Some.end) [
      | inl is ↦ rw is (rw is at c.from-freed.ensures)
      | inr is ↦ rw is (rw is at c.from-freed.ensures)
    ] in
    let few = c.loop-reaped.invariant.few in
    record {
      asks = asks_then c.loop-reaped.invariant.asks c.in-Ok-Some.ensures.asks;
      reaped = rw from (reaped_then c.loop-reaped.invariant.reaped
          (rw c.in-Ok-Some.field-0-is at c.in-Ok-Some.ensures.reaped));
      few = rw from (omega (arith, few, at_most_one c.in-Ok-Some.end));
    }

pub returns-in-Ok-None-clause-plays : goal.returns-in-Ok-None-clause-plays
returns-in-Ok-None-clause-plays g c blocks =
    let last = rw c.in-Ok-None.field-0-is at c.in-Ok-None.ensures.reaped in
    ((reaped_still c.loop-reaped.invariant.reaped last).acts blocks).plays

pub returns-in-Ok-None-clause-waits : goal.returns-in-Ok-None-clause-waits
returns-in-Ok-None-clause-waits g c = λ is.
    let before = c.loop-reaped.invariant.reaped in
    looks_after (g.N.Nic.made c.args.nic.now) (g.N.Nic.made c.loop-reaped.nic) (g.N.Nic.made c.reap_oldest.new.nic)
    c.args.self.now c.loop-reaped.self c.reap_oldest.new.self (before.acts []).plays.plays before.accepted
    (c.in-Ok-None.ensures.waits (rw c.in-Ok-None.field-0-is refl))

pub returns-in-Err-reap_oldest-clause-plays : goal.returns-in-Err-reap_oldest-clause-plays
returns-in-Err-reap_oldest-clause-plays g c blocks =
    let last = c.in-Err-reap_oldest.ensures.reaped in
    ((reaped_still c.loop-reaped.invariant.reaped last).acts blocks).plays

pub returns-in-Err-reap_oldest-clause-faults : goal.returns-in-Err-reap_oldest-clause-faults
returns-in-Err-reap_oldest-clause-faults g c blocks =
    let last = c.in-Err-reap_oldest.ensures.reaped in
    ((reaped_still c.loop-reaped.invariant.reaped last).acts blocks).faults

pub returns-in-Err-reap_oldest-clause-late : goal.returns-in-Err-reap_oldest-clause-late
returns-in-Err-reap_oldest-clause-late g c = (c.in-Err-reap_oldest.ensures.reaped.acts []).late
