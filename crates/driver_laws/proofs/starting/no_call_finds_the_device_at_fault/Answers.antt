pub returns : Rattle.driver_laws.proofs.starting.no_call_finds_the_device_at_fault.Goals.returns
returns c = Rattle.driver_laws.proofs.Healthy.no_fault
