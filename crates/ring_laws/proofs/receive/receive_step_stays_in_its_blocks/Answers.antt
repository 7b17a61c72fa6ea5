pub returns : Rattle.ring_laws.proofs.receive.receive_step_stays_in_its_blocks.Goals.returns
returns c = Rattle.ring_laws.proofs.Foreign.piece_inside
