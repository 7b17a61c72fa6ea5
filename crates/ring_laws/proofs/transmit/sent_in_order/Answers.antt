use Rattle.ring_laws.proofs.InOrder.{first_sent, idle-all, waiting-left}

pub returns : Rattle.ring_laws.proofs.transmit.sent_in_order.Goals.returns
returns c = record { prefix = first_sent; idle = idle-all; waiting = waiting-left }
