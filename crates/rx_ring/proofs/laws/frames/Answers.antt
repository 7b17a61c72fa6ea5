use Rattle.rx_ring.proofs.Frames.{pieces_make_frame}
use Rattle.rx_ring.proofs.laws.frames.Goals as goal

pub returns : goal.returns
returns c = pieces_make_frame
