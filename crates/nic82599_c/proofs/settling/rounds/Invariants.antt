use Rattle.std.proofs.Common.{◌≡◌, ◌≤◌, ◌-◌, length}
use Rattle.nic82599_c.specs.Settling.{Course, StopsIn, course, rounds}
use Rattle.nic82599_c.proofs.settling.rounds.Given as goal

-- Running the remaining rounds gives the result of running all rounds.
abbrev pub invariant-loop-round : goal.invariant-loop-round
invariant-loop-round l = record {
  room : length l.outcome ≡ length l.fn.outcome;
  count : l.count ≤ length l.outcome;
  stops : (after : Course) → StopsIn (length l.fn.outcome - l._round) (length l.fn.outcome) l.steps
      (course l.card l.outcome l.count 0) after → StopsIn (length l.fn.outcome) (length l.fn.outcome) l.steps
      (course l.fn.card l.fn.outcome l.fn.count 0) after;
  course : rounds (length l.fn.outcome - l._round) (length l.fn.outcome) l.steps (course l.card l.outcome l.count 0)
      ≡ rounds (length l.fn.outcome) (length l.fn.outcome) l.steps (course l.fn.card l.fn.outcome l.fn.count 0);
}
