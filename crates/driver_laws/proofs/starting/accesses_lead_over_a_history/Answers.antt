pub returns : Rattle.driver_laws.proofs.starting.accesses_lead_over_a_history.Goals.returns
returns c = Rattle.driver_laws.proofs.Points.accesses_lead
