use Rattle.std.proofs.Common.{sym}
use Rattle.nic_device.proofs.Pieces.{piece_inside}
use Rattle.nic_device.proofs.engine.Engine.receive_first.Goals as goal

pub put_back-requires-clause-piece : goal.put_back-requires-clause-piece
put_back-requires-clause-piece c =
    piece_inside _ _ _ _ _ _ _ _ (sym c.in-Ok.ensures.answer) c.item.ensures.rest c.item.ensures.left
