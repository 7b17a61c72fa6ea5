use Rattle.device_laws.proofs.PoolAlone.{changes_alone}
use Rattle.device_laws.proofs.PoolFrames.{keeps_frames}
use Rattle.device_laws.proofs.PoolAgrees.{sees_alone}
use Rattle.device_laws.proofs.vf_stays_in_its_pool.Goals as goal

pub returns-clause-changes : goal.returns-clause-changes
returns-clause-changes c = changes_alone

pub returns-clause-keeps : goal.returns-clause-keeps
returns-clause-keeps c = keeps_frames

pub returns-clause-agrees : goal.returns-clause-agrees
returns-clause-agrees c = sees_alone
