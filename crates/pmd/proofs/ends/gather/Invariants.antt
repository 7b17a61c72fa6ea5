use Rattle.std.proofs.Common.{◌≡◌, ◌+◌, ◌≤◌}
use Rattle.std.specs.Vec.{vec_len, vec_capacity}
use Rattle.pmd.specs.Coming.{HaveCome}
use Rattle.pmd.proofs.Gathering.{IsGathered}
use Rattle.pmd.proofs.ends.gather.Given as goal

abbrev pub invariant-loop : goal.invariant-loop
invariant-loop g l =
    record {
      gathered : IsGathered l.fn.cells.items l.cells.items l.ends.items;
      come : HaveCome l.cells.items l.collectors.items;
      left : vec_len l.cells + l.counter ≡ vec_len l.fn.cells;
      made : vec_len l.ends ≡ l.counter;
      room : vec_len l.fn.cells ≤ vec_capacity l.ends;
    }
