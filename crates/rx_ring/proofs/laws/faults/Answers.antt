use Rattle.rx_ring.proofs.Tests.{tests_in_order, fault_writes_nothing}
use Rattle.rx_ring.proofs.laws.faults.Goals as goal

pub returns-clause-order : goal.returns-clause-order
returns-clause-order c = tests_in_order

pub returns-clause-memory : goal.returns-clause-memory
returns-clause-memory c = fault_writes_nothing
