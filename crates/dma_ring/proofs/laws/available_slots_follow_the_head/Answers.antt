use Rattle.dma_ring.proofs.Slots.{available_slots_follow_the_head}
use Rattle.dma_ring.proofs.laws.available_slots_follow_the_head.Goals as goal

pub returns : goal.returns
returns c = available_slots_follow_the_head
