use Rattle.driver_laws.proofs.SetUps.{bytes_are_lowest_first, set_up_is_written}

pub returns : Rattle.driver_laws.proofs.starting.set_up_is_written.Goals.returns
returns c = record { written = set_up_is_written; bytes = bytes_are_lowest_first }
