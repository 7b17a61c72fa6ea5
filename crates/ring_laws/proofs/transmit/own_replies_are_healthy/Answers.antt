pub returns : Rattle.ring_laws.proofs.transmit.own_replies_are_healthy.Goals.returns
returns c = Rattle.ring_laws.proofs.Playing.own_replies_are_healthy
