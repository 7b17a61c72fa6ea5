use Rattle.driver_laws.proofs.On.{switched_sides_agree as agree, switched_sides_begin_none, switched_sides_go_on}

pub returns : Rattle.driver_laws.proofs.starting.switched_sides_agree.Goals.returns
returns c = record { agree = agree; on = switched_sides_go_on; begun = switched_sides_begin_none }
