pub returns : Rattle.ring_laws.proofs.receive.look_tells_the_slot.Goals.returns
returns c = Rattle.ring_laws.proofs.Leaving.look_tells
