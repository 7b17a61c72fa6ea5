use Rattle.register_laws.proofs.PoolAfterReset.{agree-reset}
use Rattle.register_laws.proofs.PoolAgreement.{agree-read, agree-write}
use Rattle.register_laws.proofs.PoolReads.{same_reported, same_shared}
use Rattle.register_laws.proofs.pool_accesses_tell_of_the_pool.Goals as goal

pub returns-clause-word : goal.returns-clause-word
returns-clause-word c = same_reported

pub returns-clause-shared_word : goal.returns-clause-shared_word
returns-clause-shared_word c = same_shared

pub returns-clause-read : goal.returns-clause-read
returns-clause-read c = agree-read

pub returns-clause-write : goal.returns-clause-write
returns-clause-write c = agree-write

pub returns-clause-reset : goal.returns-clause-reset
returns-clause-reset c = agree-reset
