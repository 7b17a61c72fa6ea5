use Rattle.driver_laws.proofs.Healthy.{frames_stay_short_along, only_pass_lent}

pub returns : Rattle.driver_laws.proofs.starting.entries_before_lead_there.Goals.returns
returns c = record { short = frames_stay_short_along; lent = only_pass_lent }
