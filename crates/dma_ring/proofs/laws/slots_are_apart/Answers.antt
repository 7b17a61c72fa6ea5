use Rattle.dma_ring.proofs.Places.{slots_are_apart, slots_are_in_blocks, ring_is_in_block}
use Rattle.dma_ring.proofs.laws.slots_are_apart.Goals as goal

pub returns-clause-apart : goal.returns-clause-apart
returns-clause-apart c = slots_are_apart

pub returns-clause-blocks : goal.returns-clause-blocks
returns-clause-blocks c = slots_are_in_blocks

pub returns-clause-ring : goal.returns-clause-ring
returns-clause-ring c = ring_is_in_block
