use Rattle.dma_ring.proofs.Fields.{packet_is_reported, piece_is_reported}
use Rattle.dma_ring.proofs.laws.receive_fields.Goals as goal

pub returns-clause-packet : goal.returns-clause-packet
returns-clause-packet c = packet_is_reported

pub returns-clause-piece : goal.returns-clause-piece
returns-clause-piece c = piece_is_reported
