use Rattle.std.proofs.Common.{None, Err, refl, arith}
use Rattle.pmd_access.proofs.Asking.{asks_none, asks_then}
use Rattle.pmd_access.proofs.Exchanging.{out_kept}
use Rattle.pmd_rx.specs.Keeping.{blocks_out}
use Rattle.pmd_rx.proofs.Acting.{gathers_none, gathers_then}
use Rattle.pmd_rx.proofs.Failing.{err_of}
use Rattle.pmd_rx.proofs.Handing.{some_rounds, still_both, more_after}
use Rattle.pmd_rx.proofs.ring.ReceiveRing.take_whole.Goals as goal

pub returns-then-free_blocks-wanted-clause-gathers : goal.returns-then-free_blocks-wanted-clause-gathers
returns-then-free_blocks-wanted-clause-gathers g c =
    gathers_none _
    (record {
      few = omega (arith, c.if-free_blocks-wanted.true, c.free_blocks.ensures, c.wanted.ensures);
      arena = refl;
      layout = refl;
      handed = refl;
      held = refl;
      whole = refl;
      named = refl;
    })

pub loop-part-init : goal.loop-part-init
loop-part-init g c =
    let v = c.args.self.now in
    record {
      asks = asks_none;
      gathers = gathers_none None tt;
      waits = λ left. record { stage = c.requires.stage; whole = refl; free = λ same. same };
      more = λ none. absurd (some_rounds v v.stage refl c.requires.stage c.requires.running none);
      left = omega arith;
    }

pub refill_next-requires-clause-running : goal.refill_next-requires-clause-running
refill_next-requires-clause-running g c = c.loop-part.invariant.gathers.keeps.running c.requires.running

pub refill_next-requires-clause-stage : goal.refill_next-requires-clause-stage
refill_next-requires-clause-stage g c =
    let left = c.loop-part.invariant.left in
    (c.loop-part.invariant.waits (omega (arith, left, c.loop-part-test.true, c.rounds-part-end.ensures))).stage

pub refill_next-requires-clause-home : goal.refill_next-requires-clause-home
refill_next-requires-clause-home g c =
    out_kept c.args.arena.now (blocks_out c.args.self.now) c.loop-part.arena (blocks_out c.loop-part.self)
    c.requires.home c.loop-part.invariant.gathers.keeps.arena

pub refill_next-requires-clause-free : goal.refill_next-requires-clause-free
refill_next-requires-clause-free g c =
    let left = c.loop-part.invariant.left in
    (c.loop-part.invariant.waits (omega (arith, left, c.loop-part-test.true, c.rounds-part-end.ensures))).free
    (omega (arith, c.if-free_blocks-wanted.false, c.free_blocks.ensures, c.wanted.ensures))

pub returns-in-Err-clause-gathers : goal.returns-in-Err-clause-gathers
returns-in-Err-clause-gathers g c =
    gathers_then c.loop-part.invariant.gathers
    (λ short. c.in-Err.ensures.enough (err_of (Err c.in-Err.fault) short)) c.in-Err.ensures.gathers

pub returns-in-Err-clause-same : goal.returns-in-Err-clause-same
returns-in-Err-clause-same g c short = absurd (c.in-Err.ensures.enough short)

pub returns-clause-gathers : goal.returns-clause-gathers
returns-clause-gathers g c = c.loop-part.invariant.gathers

pub returns-clause-one : goal.returns-clause-one
returns-clause-one g c =
    let left = c.loop-part.invariant.left in
    c.loop-part.invariant.more
    (omega (arith, left, c.loop-part-test.false, c.rounds-part-end.ensures, c.loop-part.auto._part-end))

pub loop-part-preserved : goal.loop-part-preserved
loop-part-preserved g c =
    let a = c.args.arena.now in
    let b = c.loop-part.arena in
    let d = c.refill_next.new.arena in
    let v = c.args.self.now in
    let w = c.loop-part.self in
    let x = c.refill_next.new.self in
    let less = c.in-Ok.ensures.more in
    let left = c.loop-part.invariant.left in
    let still = c.loop-part.invariant.waits (omega (arith, left, c.loop-part-test.true, c.rounds-part-end.ensures)) in
    record {
      asks = asks_then c.loop-part.invariant.asks c.in-Ok.ensures.asks;
      gathers = gathers_then c.loop-part.invariant.gathers (λ short. cc) c.in-Ok.ensures.gathers;
      waits = λ more. still_both a b d v w x still (less.waits more);
      more = λ none. more_after v w x still.whole (less.more none);
      left = omega (arith, left, less.rounds_are);
    }
