use Rattle.std.proofs.Common.{◌≤◌, sym, ap, subst, ◌∙◌, arith, None, Some, drop, length}
use Rattle.rx_ring.specs.DmaArena.Memory.{Memory}
use Rattle.nic_device.specs.Blocks.{memory_of, TellsTaken}
use Rattle.nic_device.proofs.BlockCopies.{memory-past, next-copy, tells_lower, tells_more, tells_none}
use Rattle.nic_device.proofs.copies.Blocks.lowest_taken.Goals as goal

pub each-init : goal.each-init
each-init c =
    let all : length c.self.inside.copies.items ≤ c.len-at.result = omega arith in record {
      inside = omega arith;
      reported = subst (λ (m : Memory). TellsTaken c.args.arena.now m None)
          (sym (memory-past c.self.inside.copies.items c.len-at.result all)) (tells_none c.args.arena.now);
    }

pub each-preserved-then-not-is_free : goal.each-preserved-then-not-is_free
each-preserved-then-not-is_free c =
    let copy = c.index.result.now in
    let next = next-copy c.self.inside.copies.items c.each.at copy c.self.invariant (omega arith)
    c.each.invariant.inside c.index.ensures in record {
      inside = omega arith;
      reported = subst (λ (m : Memory). TellsTaken c.args.arena.now m (Some copy.0)) (sym (ap memory_of next.next))
          (tells_lower c.args.arena.now copy (drop c.each.at c.self.inside.copies.items) next.rising
          (sym c.is_free.ensures ∙ c.if-not-is_free.true));
    }

pub each-preserved : goal.each-preserved
each-preserved c =
    let copy = c.index.result.now in
    let next = next-copy c.self.inside.copies.items c.each.at copy c.self.invariant (omega arith)
    c.each.invariant.inside c.index.ensures in record {
      inside = omega arith;
      reported = subst (λ (m : Memory). TellsTaken c.args.arena.now m c.each.lowest) (sym (ap memory_of next.next))
          (tells_more c.args.arena.now copy (drop c.each.at c.self.inside.copies.items) c.each.lowest
          (sym c.is_free.ensures ∙ c.if-not-is_free.false) c.each.invariant.reported);
    }
