pub returns : Rattle.ring_laws.proofs.receive.own_replies_are_healthy.Goals.returns
returns c = Rattle.ring_laws.proofs.Own.own_replies_are_healthy
