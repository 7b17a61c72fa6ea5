use Rattle.std.proofs.Common.{ap, arith, length, List}
use Rattle.device_lock.specs.NicDevice.DmaArena.Block.{Block}
use Rattle.pmd_access.proofs.packet.give_bufs.Goals as goal

pub unreachable-requires : goal.unreachable-requires
unreachable-requires c =
    let none = ap (λ (bs : List Block). length bs) c.in-None.ensures.none in
    let count = c.loop-given.invariant.count in
    let more = c.loop-given-test.true in
    let end = c.loop-given.auto._given-end in
    let all = c.count-given-end.ensures.count in
    omega (arith, none, count, more, end, all)
