use Rattle.std.proofs.Common.{[]}
use Rattle.pmd_driver.specs.PmdRx.Keeping.{handed_blocks}
use Rattle.pmd.proofs.Keeping.{kept_all}
use Rattle.pmd.proofs.turns.receive.Goals as goal

pub returns-clause-blocks : goal.returns-clause-blocks
returns-clause-blocks g c =
    kept_all c.args.pmd.now.rings c.rx.new.self.rings [] (handed_blocks c.rx.result) c.rx.ensures.blocks
