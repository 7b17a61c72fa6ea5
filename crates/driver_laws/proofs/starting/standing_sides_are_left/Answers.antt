pub returns : Rattle.driver_laws.proofs.starting.standing_sides_are_left.Goals.returns
returns c = Rattle.driver_laws.proofs.Points.standing_sides_are_left
