use Rattle.driver_laws.proofs.Meeting.{calls_add_harmless, drives_lead, harmless_lead, harmless_leave_alone, leads_on}
use Rattle.driver_laws.proofs.Meeting.{steps_add_harmless}
use Rattle.std.proofs.Common.{rules}

pub returns : Rattle.driver_laws.proofs.starting.harmless_calls_leave_the_queue_alone.Goals.returns
returns c =
    search (rules, calls_add_harmless, steps_add_harmless, drives_lead, harmless_lead, leads_on, harmless_leave_alone)
