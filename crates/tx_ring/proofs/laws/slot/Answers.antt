use Rattle.tx_ring.proofs.Fetches.{takes_slot}
use Rattle.tx_ring.proofs.laws.slot.Goals as goal

pub returns : goal.returns
returns c = takes_slot
