use Rattle.std.proofs.Common.{rules}
use Rattle.pmd_access.proofs.home.Reclaim.add.Goals as goal

pub returns-clause-added : goal.returns-clause-added
returns-clause-added c = search rules
