use Rattle.std.proofs.Common.{◌∙◌}
use Rattle.dma_arena.proofs.Filled.{none_there}
use Rattle.dma_arena.proofs.table.Table.end.Goals as goal

pub loop-place-init : goal.loop-place-init
loop-place-init c = none_there c.self.inside.places.items (c.self.view_is ∙ c.requires)
