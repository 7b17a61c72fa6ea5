use Rattle.register_laws.proofs.PoolReset.{covers-pool, renewed-pool}
use Rattle.register_laws.proofs.PoolSound.{sound-pool_reset}
use Rattle.register_laws.proofs.reset_pool_is_reset.Goals as goal

pub returns-clause-reset : goal.returns-clause-reset
returns-clause-reset c =
    λ r h mode v.
    let new = renewed-pool r mode v in
    record { bits = new.bits h; wanted = new.wanted h; reported = new.reported h }

pub returns-clause-alone : goal.returns-clause-alone
returns-clause-alone c = λ r mode v. (renewed-pool r mode v).alone

pub returns-clause-rest : goal.returns-clause-rest
returns-clause-rest c = covers-pool

pub returns-clause-sound : goal.returns-clause-sound
returns-clause-sound c = λ r sound mode v. sound-pool_reset r mode v sound
