use Rattle.std.proofs.Common.{◌≡◌, ◌+◌, ◌≤◌}
use Rattle.std.specs.Vec.{vec_len, vec_capacity}
use Rattle.pmd.proofs.Sitting.{IsSitting}
use Rattle.pmd.proofs.room.sit.Given as goal

abbrev pub invariant-loop-worker : goal.invariant-loop-worker
invariant-loop-worker g l =
    record {
      sitting : IsSitting l.fn.jobs.items l.collectors l.jobs.items l.producers.items l.cells.items;
      left : vec_len l.jobs + l.worker ≡ vec_len l.fn.jobs;
      placed : vec_len l.cells ≡ l.worker;
      room : vec_len l.fn.jobs ≤ vec_capacity l.cells;
    }
