use Rattle.std.proofs.Common.{arith, ◌<◌, ◌≤◌}
use Rattle.dma_ring.proofs.Slots.{available_before_the_tail, available_after_the_tail}
use Rattle.dma_ring.proofs.ring.Ring.available.Goals as goal

pub returns-then-head-tail : goal.returns-then-head-tail
returns-then-head-tail c =
    let r = c.args.self.now in
    let before : r.head ≤ r.tail = omega arith in
    rw (c.from-head.ensures, c.from-tail.ensures) (available_before_the_tail r c.requires before)

pub returns-else-head-tail : goal.returns-else-head-tail
returns-else-head-tail c =
    let r = c.args.self.now in
    let after : r.tail < r.head = omega arith in
    rw (c.slots.ensures, c.from-head.ensures, c.from-tail.ensures) (available_after_the_tail r c.requires after)
