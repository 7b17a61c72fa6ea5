use Rattle.std.proofs.Common.{◌≡◌, ◌+◌, ◌≤◌, ◌++◌, length}
use Rattle.std.specs.Vec.{vec_capacity}
use Rattle.rtrb.specs.Ring.{sent, received, known_items}
use Rattle.pmd.proofs.reports.Collector.take_rest.Given as goal

abbrev pub invariant-loop : goal.invariant-loop
invariant-loop l =
    record {
      all : received l.self.consumer ++ known_items l.self.consumer ≡ sent l.fn.producer;
      left : length (known_items l.self.consumer) + l.counter ≡ l.slots;
      room : length (sent l.fn.producer) ≤ vec_capacity l.self.reports;
    }
