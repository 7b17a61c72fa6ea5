use Rattle.std.proofs.Common.{arith}
use Rattle.nic_device.proofs.Trimmed.{kept_len_le}
use Rattle.nic_device.proofs.event.Note.of.Goals as goal

pub with_kept-requires-clause-room : goal.with_kept-requires-clause-room
with_kept-requires-clause-room c =
    let few = kept_len_le c.args.buf.now.bytes in
    let size = c.bytes-whole.ensures.whole.size in
    omega (arith, few, size, c.kept_in.ensures, c.requires.room)
