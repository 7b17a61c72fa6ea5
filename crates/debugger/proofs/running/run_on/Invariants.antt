use Rattle.debugger.specs.Snapshots.{StayOf}
use Rattle.debugger.proofs.Ran.{RanOn}
use Rattle.debugger.proofs.running.run_on.Given as goal

-- Some of the run's steps have been taken.
abbrev pub invariant-loop : goal.invariant-loop
invariant-loop l = record {
  ran : RanOn l.fn.machine l.machine l.breakpoints.items l.limit l.counter;
  stay : StayOf l.fn.machine l.fn.snapshots.kept.items l.snapshots.kept.items;
}
