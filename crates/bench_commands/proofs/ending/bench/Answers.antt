use Rattle.std.proofs.Common.{inr, refl}
use Rattle.bench_commands.specs.declared.request.Asked.TheVariants.{Input, Threads}
use Rattle.bench_commands.proofs.Endings.{ended-for-memory, ended-of-memory, ended-words}
use Rattle.bench_commands.proofs.ending.bench.Goals as goal

pub returns-in-Err-clause-asked : goal.returns-in-Err-clause-asked
returns-in-Err-clause-asked g c = λ request asks.
    ended-for-memory _ _ _ request _ _ c.end_words.result
    (ended-of-memory _ _ _ _ c.end_words.result (c.in-Err.ensures.no_memory (Input request) asks) c.end_words.ensures)

pub returns-in-Err-clause-threads : goal.returns-in-Err-clause-threads
returns-in-Err-clause-threads g c = λ options asks. (
  refl,
  inr (ended-of-memory _ _ _ _ c.end_words.result (c.in-Err.ensures.no_memory (Threads options) asks)
      c.end_words.ensures),
)

pub returns-in-Err-clause-refused : goal.returns-in-Err-clause-refused
returns-in-Err-clause-refused g c =
    λ none. (ended-words _ _ _ _ c.in-Err.error c.end_words.result c.in-Err.ensures.refused c.end_words.ensures, refl)
