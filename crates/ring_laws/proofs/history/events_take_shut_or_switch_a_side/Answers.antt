use Rattle.ring_laws.proofs.Deeds.{left_did, side_did}

pub returns : Rattle.ring_laws.proofs.history.events_take_shut_or_switch_a_side.Goals.returns
returns c = record { left = left_did; side = side_did }
