use Rattle.ring_laws.proofs.{Foreign.enable_keeps, Leaving.leaving_keeps, Leaving.switching_keeps}

pub returns : Rattle.ring_laws.proofs.receive.other_events_keep_the_agreement.Goals.returns
returns c = record { leaving = leaving_keeps; switching = switching_keeps; enable = enable_keeps }
