use Rattle.std.proofs.Common.{rules, refl, ◌≡◌, ◌∷◌, ◌∙◌, false, length}
use Rattle.std.specs.Prelude.{◌==◌}
use Rattle.nic82599_c.specs.Settling.{course}
use Rattle.nic82599_c.proofs.Courses.{walk-next, walk-ended, walk-done, so-far-next, so-far-none, stops-there}
use Rattle.nic82599_c.proofs.settling.walk.Goals as goal

pub each-init : goal.each-init
each-init c = record {
  room = refl;
  count = search rules;
  far = so-far-none (length c.args.outcome.now) c.args.steps.now
      (course c.args.card.now c.args.outcome.now c.args.count.now 0);
  course = refl;
}

pub each-preserved : goal.each-preserved
each-preserved c =
    let first : c.each.left.now ≡ c.in-Some.step.now ∷ c.in-Some.rest.now = search rules in
    let done : c.make-ended.result ≡ 0 = search rules in
    record {
      room = c.make-ended.ensures.room ∙ c.each.invariant.room;
      count = c.make-ended.ensures.count;
      course = walk-next (length c.args.outcome.now) (course c.each.card c.each.outcome c.each.count 0)
          (course c.make-ended.new.card c.make-ended.new.outcome c.make-ended.new.count 0) _
          c.in-Some.step.now c.each.left.now c.in-Some.rest.now first
          (rw (done, c.each.invariant.room) at (c.make-ended.ensures.course (search rules)))
          c.each.invariant.course;
      far = so-far-next (length c.args.outcome.now) c.args.steps.now c.each.left.now c.in-Some.rest.now
          c.in-Some.step.now _ (course c.each.card c.each.outcome c.each.count 0)
          (course c.make-ended.new.card c.make-ended.new.outcome c.make-ended.new.count 0) c.each.invariant.far first
          (rw (done, c.each.invariant.room) at (c.make-ended.ensures.course (search rules)));
    }

pub returns-then-ended-ne-DONE-clause-course : goal.returns-then-ended-ne-DONE-clause-course
returns-then-ended-ne-DONE-clause-course c =
    let first : c.each.left.now ≡ c.in-Some.step.now ∷ c.in-Some.rest.now = search rules in
    let ended : (c.make-ended.result == 0) ≡ false = search rules in
    λ some. walk-ended (length c.args.outcome.now) (course c.each.card c.each.outcome c.each.count 0)
    (course c.make-ended.new.card c.make-ended.new.outcome c.make-ended.new.count c.make-ended.result) _
    c.in-Some.step.now c.each.left.now c.in-Some.rest.now first
    (rw c.each.invariant.room at (c.make-ended.ensures.course some)) ended c.each.invariant.course

pub returns-clause-course : goal.returns-clause-course
returns-clause-course c =
    let none : length c.each.left.now ≡ 0 = c.in_default.ensures.cases in
    λ some. walk-done (length c.args.outcome.now) (course c.each.card c.each.outcome c.each.count 0) _ c.each.left.now
    none c.each.invariant.course

pub returns-then-ended-ne-DONE-clause-stopped : goal.returns-then-ended-ne-DONE-clause-stopped
returns-then-ended-ne-DONE-clause-stopped c =
    let first : c.each.left.now ≡ c.in-Some.step.now ∷ c.in-Some.rest.now = search rules in
    λ none. let same = c.make-ended.ensures.unchanged none in
    let is : course c.make-ended.new.card c.make-ended.new.outcome c.make-ended.new.count 0
    ≡ course c.each.card c.each.outcome c.each.count 0 = rw (same.0, same.1, same.2) refl in
    stops-there (length c.args.outcome.now) c.args.steps.now c.each.left.now c.in-Some.rest.now c.in-Some.step.now _
    (course c.each.card c.each.outcome c.each.count 0) _ c.each.invariant.far first is
    (rw same.0 (c.make-ended.ensures.memory none))
