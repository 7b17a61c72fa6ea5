use Rattle.ring_laws.proofs.Foreign.{enable_same, entry_stays_up, left_up, own_stays_up, receive_stays_up}

pub returns : Rattle.ring_laws.proofs.receive.queue_up_stays_up.Goals.returns
returns c = assumption (left_up, enable_same, receive_stays_up, own_stays_up, entry_stays_up)
