use Rattle.std.proofs.Common.{◌≡◌, ◌≤◌, take}
use Rattle.bench.specs.Summary.{sent_in}
use Rattle.bench.proofs.summary.sent_in.Given as goal

abbrev pub invariant-loop-entry : goal.invariant-loop-entry
invariant-loop-entry l =
    record {
      sent : l.sent ≡ sent_in (take l.entry-index l.history);
      bound : l.sent ≤ l.entry-index;
    }
