use Rattle.std.proofs.lemmas.Bool.{eqb-true, eq-eqb}
use Rattle.dma_arena.proofs.Filled.{none_lent, no_lowest}
use Rattle.dma_arena.proofs.table.Table.is_empty.Goals as goal

pub returns : goal.returns
returns c = (
  λ is. none_lent c.self.invariant c.self.view_is (eqb-true c.self.inside.first 65536 is),
  λ empty. eq-eqb c.self.inside.first 65536 (no_lowest c.self.invariant c.self.view_is empty),
)
