use Rattle.pmd_driver.proofs.Followed.{drives_on, others_drive, receiving_drives, sending_drives}

pub returns : Rattle.driver_laws.proofs.starting.calls_lead_both_halves.Goals.returns
returns c = record { receiving = receiving_drives; sending = sending_drives; others = others_drive; on = drives_on }
