use Rattle.driver_laws.proofs.TimedOut.{receive_is_ready, switching_is_never_stray, transmit_is_ready}

pub returns : Rattle.driver_laws.proofs.starting.starts_find_no_device_at_fault.Goals.returns
returns c = record { receive = receive_is_ready; transmit = transmit_is_ready; switch = switching_is_never_stray }
