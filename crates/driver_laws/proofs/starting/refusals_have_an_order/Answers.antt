use Rattle.driver_laws.proofs.Refusals.{packets_have_an_order, starts_have_an_order}
use Rattle.driver_laws.proofs.starting.refusals_have_an_order.Goals as goal

pub returns-clause-starts : goal.returns-clause-starts
returns-clause-starts c = starts_have_an_order

pub returns-clause-packets : goal.returns-clause-packets
returns-clause-packets c = packets_have_an_order
