use Rattle.std.proofs.Common.{ap}
use Rattle.dma_arena.specs.Shown.{shown_from, shown}
use Rattle.dma_arena.proofs.table.Table.new.Goals as goal

pub returns : goal.returns
unfolding shown_from
returns c = ap shown c.new.ensures.items
