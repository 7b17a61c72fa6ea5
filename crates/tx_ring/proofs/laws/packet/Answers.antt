use Rattle.tx_ring.proofs.Packets.{packet_law}
use Rattle.tx_ring.proofs.laws.packet.Goals as goal

pub returns : goal.returns
returns c = packet_law
