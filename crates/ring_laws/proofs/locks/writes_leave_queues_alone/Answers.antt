use Rattle.ring_laws.proofs.Addresses.{addresses_leave}
use Rattle.ring_laws.proofs.locks.writes_leave_queues_alone.Goals as goal

pub returns-clause-address : goal.returns-clause-address
returns-clause-address c = addresses_leave
