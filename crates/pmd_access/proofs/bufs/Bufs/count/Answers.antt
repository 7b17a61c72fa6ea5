use Rattle.std.proofs.Common.{◌∙◌, arith, sym, ap, List, length}
use Rattle.device_lock.specs.NicDevice.DmaArena.Block.{Block}
use Rattle.pmd_access.proofs.Standing.{stand_count, stand_few}
use Rattle.pmd_access.proofs.bufs.Bufs.count.Goals as goal

pub returns-clause-count : goal.returns-clause-count
returns-clause-count c =
    sym (stand_count c.self.inside.count c.self.inside.places c.self.invariant.0)
    ∙ ap (λ (bs : List Block). length bs) c.self.view_is

pub returns-clause-few : goal.returns-clause-few
returns-clause-few c =
    let few = stand_few c.self.inside.count c.self.inside.places c.self.invariant.0 in
    let five = c.self.invariant.1 in omega (arith, few, five)
