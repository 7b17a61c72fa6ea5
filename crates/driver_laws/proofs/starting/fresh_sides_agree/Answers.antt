use Rattle.driver_laws.proofs.On.{fresh_receive_agrees, fresh_transmit_agrees}

pub returns : Rattle.driver_laws.proofs.starting.fresh_sides_agree.Goals.returns
returns c = record { receive = fresh_receive_agrees; transmit = fresh_transmit_agrees }
