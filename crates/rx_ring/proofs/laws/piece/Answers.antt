use Rattle.rx_ring.proofs.Fills.{takes_piece}
use Rattle.rx_ring.proofs.laws.piece.Goals as goal

pub returns : goal.returns
returns c = takes_piece
