use Rattle.driver_laws.proofs.Stopped.{over_stop, sent_over}

pub returns : Rattle.driver_laws.proofs.stopped_life_in_order.Goals.returns
returns c = record { handed = λ x new y. (over_stop x new y).ahead; sent = sent_over }
