use Rattle.ring_laws.proofs.Beginning.{followed}
use Rattle.ring_laws.proofs.locks.pools_are_the_last_that_were_set.Goals as goal

pub returns-clause-set : goal.returns-clause-set
returns-clause-set c = followed
