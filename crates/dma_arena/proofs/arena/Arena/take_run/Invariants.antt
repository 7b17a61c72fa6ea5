use Rattle.std.proofs.Common.{◌≡◌}
use Rattle.dma_arena.specs.Run.{without_run}
use Rattle.dma_arena.proofs.arena.Arena.take_run.Given as goal

abbrev pub invariant-loop-k : goal.invariant-loop-k
invariant-loop-k l = record {
  run : l.run ≡ record { first = l.first; count = l.k };
  taken : l.self ≡ without_run l.initial.self l.first l.k;
}
