use Rattle.std.proofs.Common.{ap, arith, length}
use Rattle.nic_device.proofs.Trimmed.{kept_len_le}
use Rattle.nic_device.proofs.notes.zeros_after.Goals as goal

pub overflow_sub-result : goal.overflow_sub-result
overflow_sub-result c =
    let few = kept_len_le c.args.buf.now.bytes in
    let same = ap length c.bytes.ensures.value in
    omega (arith, few, same, c.requires)
