use Rattle.std.proofs.Common.{rules, ◌≡◌, ◌∙◌, suc, ◌-◌, ◌+◌, sym, length, arith}
use Rattle.nic82599_c.specs.Settling.{course}
use Rattle.nic82599_c.proofs.Courses.{round-last, round-next, round-none, last-is, over-done, stops-here, stops-later}
use Rattle.nic82599_c.proofs.settling.rounds.Goals as goal

pub returns-then-is_over-clause-course : goal.returns-then-is_over-clause-course
returns-then-is_over-clause-course c =
    let room = length c.args.outcome.now in
    let more : room - c.loop-round._round ≡ suc (room - (c.loop-round._round + 1)) = omega arith in
    λ some. round-last (room - (c.loop-round._round + 1)) room c.args.steps.now
    (course c.loop-round.card c.loop-round.outcome c.loop-round.count 0)
    (course c.walk-ended.new.card c.walk-ended.new.outcome c.walk-ended.new.count c.walk-ended.result) _
    (rw c.loop-round.invariant.room at (c.walk-ended.ensures.course some))
    (last-is c.loop-round.card c.walk-ended.new.card c.loop-round.outcome c.walk-ended.new.outcome c.loop-round.count
    c.walk-ended.new.count c.walk-ended.result c.loop-round.invariant.count c.walk-ended.ensures.count
    ∙ sym c.is_over.ensures ∙ c.if-is_over.true)
    (rw more at c.loop-round.invariant.course)

pub returns-then-is_over-clause-stopped : goal.returns-then-is_over-clause-stopped
returns-then-is_over-clause-stopped c =
    let room = length c.args.outcome.now in
    let more : room - c.loop-round._round ≡ suc (room - (c.loop-round._round + 1)) = omega arith in
    λ none. let after = course c.walk-ended.new.card c.walk-ended.new.outcome c.walk-ended.new.count 0 in
    (rw more at (c.loop-round.invariant.stops after)) (stops-here (room - (c.loop-round._round + 1)) room
    c.args.steps.now (course c.loop-round.card c.loop-round.outcome c.loop-round.count 0) after
    (rw c.loop-round.invariant.room at (c.walk-ended.ensures.stopped none)))

pub loop-round-preserved : goal.loop-round-preserved
loop-round-preserved c =
    let room = length c.args.outcome.now in
    let more : room - c.loop-round._round ≡ suc (room - (c.loop-round._round + 1)) = omega arith in
    let over = sym c.is_over.ensures ∙ c.if-is_over.false in
    let done = over-done c.walk-ended.result c.loop-round.count c.walk-ended.new.count over in
    record {
      room = c.walk-ended.ensures.room ∙ c.loop-round.invariant.room;
      count = c.walk-ended.ensures.count;
      course = round-next (room - (c.loop-round._round + 1)) room c.args.steps.now
          (course c.loop-round.card c.loop-round.outcome c.loop-round.count 0)
          (course c.walk-ended.new.card c.walk-ended.new.outcome c.walk-ended.new.count 0) _
          (rw (done, c.loop-round.invariant.room) at (c.walk-ended.ensures.course (search rules)))
          (last-is c.loop-round.card c.walk-ended.new.card c.loop-round.outcome c.walk-ended.new.outcome
          c.loop-round.count c.walk-ended.new.count 0 c.loop-round.invariant.count c.walk-ended.ensures.count
          ∙ (rw done at over))
          (rw more at c.loop-round.invariant.course);
      stops = λ after later. (rw more at (c.loop-round.invariant.stops after))
          (stops-later (room - (c.loop-round._round + 1)) room c.args.steps.now
          (course c.loop-round.card c.loop-round.outcome c.loop-round.count 0)
          (course c.walk-ended.new.card c.walk-ended.new.outcome c.walk-ended.new.count 0) after
          (rw (done, c.loop-round.invariant.room) at (c.walk-ended.ensures.course (search rules)))
          (last-is c.loop-round.card c.walk-ended.new.card c.loop-round.outcome c.walk-ended.new.outcome
          c.loop-round.count c.walk-ended.new.count 0 c.loop-round.invariant.count c.walk-ended.ensures.count
          ∙ (rw done at over))
          later);
    }

pub returns-clause-course : goal.returns-clause-course
returns-clause-course c =
    let room = length c.args.outcome.now in
    let none : room - c.loop-round._round ≡ 0 = omega arith in
    λ some. sym (round-none room c.args.steps.now (course c.loop-round.card c.loop-round.outcome c.loop-round.count 0))
    ∙ (rw none at c.loop-round.invariant.course)
