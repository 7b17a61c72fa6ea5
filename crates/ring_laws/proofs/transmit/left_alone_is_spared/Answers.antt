pub returns : Rattle.ring_laws.proofs.transmit.left_alone_is_spared.Goals.returns
returns c = Rattle.ring_laws.proofs.InOrder.left_alone_is_spared
