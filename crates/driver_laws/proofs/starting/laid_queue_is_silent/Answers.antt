pub returns : Rattle.driver_laws.proofs.starting.laid_queue_is_silent.Goals.returns
returns c = Rattle.driver_laws.proofs.Laid.laid_queue_is_silent
