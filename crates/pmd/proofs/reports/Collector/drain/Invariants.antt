use Rattle.std.proofs.Common.{◌≡◌, ◌≤◌}
use Rattle.std.specs.Vec.{vec_len, vec_capacity}
use mathlib.Core.List.{IsPrefix}
use Rattle.rtrb.specs.Ring.{SameConsumer}
use Rattle.pmd.proofs.reports.Collector.drain.Given as goal

abbrev pub invariant-loop : goal.invariant-loop
invariant-loop l =
    record {
      ring : SameConsumer l.fn.self.consumer l.self.consumer;
      room : vec_capacity l.self.reports ≡ vec_capacity l.fn.self.reports;
      kept : IsPrefix l.fn.self.reports.items l.self.reports.items;
      each : l.counter ≤ vec_len l.self.reports;
    }
