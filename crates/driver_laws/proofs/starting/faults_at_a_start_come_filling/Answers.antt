use Rattle.driver_laws.proofs.TimedOut.{faults_are_early_or_filling, filling_begins_well, no_fault_is_early}

pub returns : Rattle.driver_laws.proofs.starting.faults_at_a_start_come_filling.Goals.returns
returns c = record { cases = faults_are_early_or_filling; early = no_fault_is_early; filling = filling_begins_well }
