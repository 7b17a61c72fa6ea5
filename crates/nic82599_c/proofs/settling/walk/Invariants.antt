use Rattle.std.proofs.Common.{◌≡◌, ◌≤◌, length}
use Rattle.nic82599_c.specs.Settling.{course, walked}
use Rattle.nic82599_c.proofs.Courses.{SoFar}
use Rattle.nic82599_c.proofs.settling.walk.Given as goal

-- Running the remaining steps gives the result of running all steps.
abbrev pub invariant-each : goal.invariant-each
invariant-each l = record {
  room : length l.outcome ≡ length l.fn.outcome;
  count : l.count ≤ length l.outcome;
  far : SoFar (length l.fn.outcome) l.steps l.left (course l.fn.card l.fn.outcome l.fn.count 0)
      (course l.card l.outcome l.count 0);
  course : walked (length l.fn.outcome) (course l.card l.outcome l.count 0) l.left
      ≡ walked (length l.fn.outcome) (course l.fn.card l.fn.outcome l.fn.count 0) l.steps;
}

abbrev pub decreases-each : goal.decreases-each
decreases-each l = length l.left
