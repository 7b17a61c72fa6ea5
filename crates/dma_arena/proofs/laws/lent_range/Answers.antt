use Rattle.dma_arena.proofs.Bus.{is_lent_each, is_lent_of_each, lent_end}
use Rattle.dma_arena.proofs.laws.lent_range.Goals as goal

pub returns-clause-blocks : goal.returns-clause-blocks
returns-clause-blocks c = λ m a n. (λ lent at low high. is_lent_each m a n at lent low high, is_lent_of_each m a n)

pub returns-clause-end : goal.returns-clause-end
returns-clause-end c = lent_end
