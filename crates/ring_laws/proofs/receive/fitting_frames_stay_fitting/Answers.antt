use Rattle.ring_laws.proofs.Fitting.{frames_stay_fitting, none_begun_while_off}

pub returns : Rattle.ring_laws.proofs.receive.fitting_frames_stay_fitting.Goals.returns
returns c = record { stay = frames_stay_fitting; off = none_begun_while_off }
