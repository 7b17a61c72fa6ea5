use Rattle.std.proofs.Common.{sym, arith}
use Rattle.nic82599_c.proofs.Frames.{room_fits}
use Rattle.nic82599_c.proofs.wire.collect.Goals as goal

pub copy_from_slice-requires : goal.copy_from_slice-requires
copy_from_slice-requires c =
    room_fits c.args.card.now.device c.in-Ok.reply c.in-Frame.queue c.next_out.result c.in-Frame.bytes
    c.bytes-all.result.now c.args.room.now c.in-Ok.ensures.reply c.in-Frame.is c.bytes-all.ensures c.next_out.ensures
    (omega arith)

pub slice_bounds-copy_from_slice-end-in-Frame : goal.slice_bounds-copy_from_slice-end-in-Frame
slice_bounds-copy_from_slice-end-in-Frame c =
    sym (room_fits c.args.card.now.device c.in-Ok.reply c.in-Frame.queue c.next_out.result c.in-Frame.bytes
    c.bytes-all.result.now c.args.room.now c.in-Ok.ensures.reply c.in-Frame.is c.bytes-all.ensures c.next_out.ensures
    (omega arith))
