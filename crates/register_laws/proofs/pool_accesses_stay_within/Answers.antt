use Rattle.register_laws.proofs.PoolPlaces.{covers-read, covers-write, shared-read, shared-written}
use Rattle.register_laws.proofs.pool_accesses_stay_within.Goals as goal

pub returns-clause-read : goal.returns-clause-read
returns-clause-read c = covers-read

pub returns-clause-write : goal.returns-clause-write
returns-clause-write c = covers-write

pub returns-clause-shared_read : goal.returns-clause-shared_read
returns-clause-shared_read c = shared-read

pub returns-clause-shared_write : goal.returns-clause-shared_write
returns-clause-shared_write c = shared-written
