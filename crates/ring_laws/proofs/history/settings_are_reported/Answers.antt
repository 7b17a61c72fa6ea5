use Rattle.ring_laws.proofs.Limits.{mode_reported, settings_reported}

pub returns : Rattle.ring_laws.proofs.history.settings_are_reported.Goals.returns
returns c = record { mode = mode_reported; settings = settings_reported }
