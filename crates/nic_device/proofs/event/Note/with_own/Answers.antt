use Rattle.std.proofs.Common.{◌∙◌}
use Rattle.nic_device.proofs.Trimmed.{held-trimmed, held-whole}
use Rattle.nic_device.proofs.event.Note.with_own.Goals as goal

pub new-requires : goal.new-requires
new-requires c =
    held-trimmed c.args.buf.now c.args.bytes c.args.kept _ _ _ c.own.ensures c.requires.kept c.requires.bytes

pub returns : goal.returns
returns c =
    c.new.ensures
    ∙ held-whole c.args.buf.now c.args.bytes c.args.kept _ _ _ c.own.ensures c.requires.kept c.requires.bytes
    c.block.ensures.number c.zeros_after-zeros.ensures
