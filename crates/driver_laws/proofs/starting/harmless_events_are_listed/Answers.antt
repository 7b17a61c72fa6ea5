use Rattle.driver_laws.proofs.HarmlessEvents.{by_address, others}
use Rattle.driver_laws.proofs.starting.harmless_events_are_listed.Goals as goal

pub returns-clause-address : goal.returns-clause-address
returns-clause-address c = by_address

pub returns-clause-others : goal.returns-clause-others
returns-clause-others c = others
