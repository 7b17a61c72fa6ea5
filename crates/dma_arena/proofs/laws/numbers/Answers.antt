use Rattle.dma_arena.proofs.Arenas.{own_within-all_free, is_own-all_free, is_free-all_free, ChangesOne-with_free, CountsFree-numbers}
use Rattle.dma_arena.proofs.laws.numbers.Goals as goal

pub returns-clause-own : goal.returns-clause-own
returns-clause-own c =
    λ first count number. (
      (own_within-all_free first count number, λ within. is_own-all_free first count number within.0 within.1),
      is_free-all_free first count number,
    )

pub returns-clause-change : goal.returns-clause-change
returns-clause-change c = ChangesOne-with_free

pub returns-clause-count : goal.returns-clause-count
returns-clause-count c = CountsFree-numbers
