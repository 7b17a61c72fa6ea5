use Rattle.driver_laws.proofs.SwitchedOff.{quiet_sides_stand, quieting_leads}

pub returns : Rattle.driver_laws.proofs.starting.both_sides_are_seen_off.Goals.returns
returns c = record { quieting = quieting_leads; stand = quiet_sides_stand }
