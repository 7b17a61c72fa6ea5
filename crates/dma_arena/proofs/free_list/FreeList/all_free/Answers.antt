use Rattle.dma_arena.proofs.Numbers.{all_counted}
use Rattle.dma_arena.proofs.free_list.FreeList.all_free.Goals as goal

pub returns : goal.returns
returns c = rw (c.count_free.ensures, c.len.ensures.count) (all_counted c.args.self.now)
