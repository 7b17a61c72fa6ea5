use Rattle.std.proofs.Common.{ap, ◌∙◌, length}
use Rattle.nic_device.proofs.Returning.{range-lent, written-whole}
use Rattle.nic_device.proofs.copies.write_block.Goals as goal

pub write_at-requires : goal.write_at-requires
write_at-requires c =
    range-lent c.args.memory.now c.args.number c.from.result (length c.bytes.result.now) c.requires.lent c.from.ensures
    (ap length c.bytes.ensures ∙ c.requires.whole)

pub returns : goal.returns
returns c =
    written-whole c.args.memory.now c.write_at.new.self c.args.number c.from.result c.bytes.result.now
    c.args.bytes.now c.requires.blocks c.requires.lent c.from.ensures c.bytes.ensures c.requires.whole
    c.write_at.ensures
