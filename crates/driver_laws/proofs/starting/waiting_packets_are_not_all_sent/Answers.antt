pub returns : Rattle.driver_laws.proofs.starting.waiting_packets_are_not_all_sent.Goals.returns
returns c = Rattle.driver_laws.proofs.InOrder.waiting_is_not_all
