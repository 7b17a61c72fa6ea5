use Rattle.std.proofs.Common.{[]}
use Rattle.pmd_driver.specs.PmdAccess.Bufs.{numbers_of}
use Rattle.pmd.proofs.Keeping.{kept_all}
use Rattle.pmd.proofs.turns.release.Goals as goal

pub returns-clause-blocks : goal.returns-clause-blocks
returns-clause-blocks c =
    kept_all c.args.pmd.now.rings c.release.new.self.rings (numbers_of c.args.packet.bufs) [] c.in-Ok.ensures.blocks
