use Rattle.std.proofs.Common.{sym, ◌∙◌}
use Rattle.device_lock.specs.Watching.{marked}
use Rattle.device_lock.proofs.Watching.{test_decides}
use Rattle.device_lock.proofs.alone.left_alone.Goals as goal

pub returns : goal.returns
returns c =
    let decides = test_decides c.args.watched (marked c.lent_by-blocks.result) c.args.history.now
    c.lent_by-blocks.ensures in
    ((λ is. decides.0 (sym c.are_left_alone.ensures ∙ is)), λ leaves. c.are_left_alone.ensures ∙ decides.1 leaves)
