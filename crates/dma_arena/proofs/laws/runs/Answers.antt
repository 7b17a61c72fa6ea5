use Rattle.dma_arena.proofs.RunLaws.{lowest_law, run_law, runs_keep_each_once}
use Rattle.dma_arena.proofs.laws.runs.Goals as goal

pub returns-clause-lowest : goal.returns-clause-lowest
returns-clause-lowest c = lowest_law

pub returns-clause-taken : goal.returns-clause-taken
returns-clause-taken c = run_law

pub returns-clause-each_once : goal.returns-clause-each_once
returns-clause-each_once c = runs_keep_each_once
