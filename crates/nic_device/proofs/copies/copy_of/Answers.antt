use Rattle.std.proofs.Common.{◌∙◌}
use Rattle.nic_device.proofs.BlockCopies.{copy-of_none, copy-of_some}
use Rattle.nic_device.proofs.copies.copy_of.Goals as goal

pub returns-then-not-is_lent : goal.returns-then-not-is_lent
returns-then-not-is_lent c =
    copy-of_none c.args.memory.now c.args.number c.from-bus.result c.is_lent.result c.from-bus.ensures
    c.is_lent.ensures.lent c.if-not-is_lent.true

pub returns : goal.returns
returns c =
    copy-of_some c.args.memory.now c.args.number c.from-bus.result c.is_lent.result c.of.result c.is_lent.ensures.whole
    c.from-bus.ensures c.is_lent.ensures.lent c.if-not-is_lent.false
    (c.of.ensures ∙ c.in_ok-copy.ensures.items ∙ c.read_at.ensures)
