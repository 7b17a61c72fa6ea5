use Rattle.tx_ring.proofs.Fetches.{fault_changes_nothing}
use Rattle.tx_ring.proofs.Tests.{tests_in_order}
use Rattle.tx_ring.proofs.laws.faults.Goals as goal

pub returns-clause-order : goal.returns-clause-order
returns-clause-order c = tests_in_order

pub returns-clause-unchanged : goal.returns-clause-unchanged
returns-clause-unchanged c = fault_changes_nothing
