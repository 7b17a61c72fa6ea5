use Rattle.std.proofs.Common.{◌≡◌, ◌*◌, ◌≤◌, take}
use Rattle.bench.specs.Summary.{byte_count}
use Rattle.bench.proofs.summary.byte_count.Given as goal

abbrev pub invariant-loop-report : goal.invariant-loop-report
invariant-loop-report l =
    record {
      sum : l.bytes ≡ byte_count (take l.report-index l.reports);
      bound : l.bytes ≤ 65535 * l.report-index;
    }
