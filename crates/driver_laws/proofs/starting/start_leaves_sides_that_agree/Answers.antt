use Rattle.driver_laws.proofs.On.{start_agrees, start_goes_on}

pub returns : Rattle.driver_laws.proofs.starting.start_leaves_sides_that_agree.Goals.returns
returns c = record { agree = start_agrees; on = start_goes_on }
