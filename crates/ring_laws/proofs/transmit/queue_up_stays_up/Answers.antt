pub returns : Rattle.ring_laws.proofs.transmit.queue_up_stays_up.Goals.returns
returns c = Rattle.ring_laws.proofs.Playing.up_stays
