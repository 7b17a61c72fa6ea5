pub returns : Rattle.ring_laws.proofs.receive.foreign_entry_keeps_the_agreement.Goals.returns
returns c = Rattle.ring_laws.proofs.Foreign.entry_keeps
