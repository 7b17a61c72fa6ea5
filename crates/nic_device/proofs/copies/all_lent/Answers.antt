use Rattle.std.proofs.Common.{List, ℕ, sym, ap, subst, ◌∙◌, arith, drop, length}
use Rattle.rx_ring.specs.DmaArena.Memory.{Memory}
use Rattle.nic_device.specs.Blocks.{memory_of, AreAmong}
use Rattle.nic_device.proofs.BlockCopies.{drop-at, memory-past, next-copy}
use Rattle.nic_device.proofs.Returning.{among-none, among-more, lent-range, missing-one}
use Rattle.nic_device.proofs.copies.all_lent.Goals as goal

pub each-init : goal.each-init
each-init c = record {
  inside = omega arith;
  among = subst (λ (m : Memory). AreAmong c.args.memory.now m)
      (sym (memory-past c.args.copies.now (length c.args.copies.now) (omega arith))) (among-none c.args.memory.now);
}

pub each-preserved : goal.each-preserved
each-preserved c =
    let copy = c.index-copies-at.result in
    let next = drop-at c.args.copies.now c.each.at copy (omega arith) c.each.invariant.inside c.index-copies-at.is in
    let lent = lent-range c.args.memory.now copy.0 c.from.result c.is_lent.result
    (c.from.ensures ∙ sym (ap (λ (x : ℕ × List ℕ). x.0) c.index-copies-at.is)) c.is_lent.ensures.lent
    c.if-not-is_lent.false in
    record {
      inside = omega arith;
      among = subst (λ (m : Memory). AreAmong c.args.memory.now m) (sym (ap memory_of next))
          (among-more c.args.memory.now copy (drop c.each.at c.args.copies.now) lent c.each.invariant.among);
    }

pub returns-then-not-is_lent : goal.returns-then-not-is_lent
returns-then-not-is_lent c =
    let copy = c.index-copies-at.result in
    let next = next-copy c.args.copies.now c.each.at copy c.requires (omega arith) c.each.invariant.inside
    c.index-copies-at.is in
    missing-one c.args.memory.now (memory_of c.args.copies.now) copy.0 c.from.result copy.1 c.is_lent.result next.there
    (c.from.ensures ∙ sym (ap (λ (x : ℕ × List ℕ). x.0) c.index-copies-at.is)) c.is_lent.ensures.lent
    c.if-not-is_lent.true
