use Rattle.rx_ring.proofs.Fills.{writes_inside_slot, fill_keeps_blocks, fills_two_blocks}
use Rattle.rx_ring.proofs.laws.elsewhere.Goals as goal

pub returns-clause-bytes : goal.returns-clause-bytes
returns-clause-bytes c = writes_inside_slot

pub returns-clause-blocks : goal.returns-clause-blocks
returns-clause-blocks c = fill_keeps_blocks

pub returns-clause-whole : goal.returns-clause-whole
returns-clause-whole c = fills_two_blocks
