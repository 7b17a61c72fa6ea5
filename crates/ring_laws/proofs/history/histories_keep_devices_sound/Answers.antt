pub returns : Rattle.ring_laws.proofs.history.histories_keep_devices_sound.Goals.returns
returns c = Rattle.ring_laws.proofs.Limits.histories_sound
