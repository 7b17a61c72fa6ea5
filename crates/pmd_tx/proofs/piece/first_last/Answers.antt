use Rattle.std.proofs.Common.{arith}
use Rattle.pmd_tx.proofs.Outstanding.{first-below}
use Rattle.pmd_tx.proofs.piece.first_last.Goals as goal

pub unreachable-requires : goal.unreachable-requires
unreachable-requires c =
    let ps = c.args.pieces.now.items in
    let below = first-below ps c.requires.ends c.requires.some in
    let test = c.loop-number-test.false in
    omega (arith, below, c.loop-number.invariant, test, c.loop-number.auto.number-end, c.len-number-end.ensures)
