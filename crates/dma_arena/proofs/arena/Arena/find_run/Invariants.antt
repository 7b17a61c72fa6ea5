use Rattle.std.proofs.Common.{◌≡◌, ◌≤◌, ◌+◌, ◌-◌}
use Rattle.dma_arena.specs.Numbers.{count_of}
use Rattle.dma_arena.specs.Run.{lowest_run, run_from}
use Rattle.dma_arena.proofs.arena.Arena.find_run.Given as goal

abbrev pub invariant-loop-from : goal.invariant-loop-from
invariant-loop-from l = record {
  low : (l.self.first ≤ l.from) × (l.from ≤ l.number);
  rest :
      lowest_run l.self l.count l.from
      ≡ run_from l.self l.count l.number (l.self.first + count_of l.self - l.number);
}

abbrev pub decreases-loop-from : goal.decreases-loop-from
decreases-loop-from l = l.self.first + count_of l.self - l.number
