use Rattle.std.proofs.Common.{ap, ◌∙◌}
use Rattle.dma_arena.specs.Numbers.{are_all_free}
use Rattle.dma_arena.proofs.Numbers.{all_set-is}
use Rattle.dma_arena.proofs.arena.Arena.split_at.Goals as goal

pub split-requires-clause-free : goal.split-requires-clause-free
split-requires-clause-free c = all_set-is c.self.inside.list (ap are_all_free c.self.view_is ∙ c.requires.free)
