use Rattle.register_laws.proofs.PoolsApart.{pools_apart, agreement_stands}
use Rattle.register_laws.proofs.pools_have_nothing_in_common.Goals as goal

pub returns-clause-apart : goal.returns-clause-apart
returns-clause-apart c = pools_apart

pub returns-clause-stands : goal.returns-clause-stands
returns-clause-stands c = agreement_stands
