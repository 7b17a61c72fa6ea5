use Rattle.std.proofs.Common.{[]}
use Rattle.pmd.proofs.Keeping.{kept_all}
use Rattle.pmd.proofs.turns.reap.Goals as goal

pub returns-clause-blocks : goal.returns-clause-blocks
returns-clause-blocks g c = kept_all c.args.pmd.now.rings c.reap.new.self.rings [] [] c.reap.ensures.blocks
