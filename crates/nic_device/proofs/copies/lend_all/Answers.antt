use Rattle.std.proofs.Common.{sym, ap, subst, ◌∙◌, arith, length}
use Rattle.std.specs.Prelude.{is_some}
use Rattle.rx_ring.specs.DmaArena.Memory.{Memory, has_block}
use Rattle.nic_device.specs.Blocks.{HaveLeft}
use Rattle.nic_device.proofs.BlockCopies.{lend-next, memory-past, next-copy}
use Rattle.nic_device.proofs.Leaving.{free_after, left-start}
use Rattle.nic_device.proofs.copies.lend_all.Goals as goal

pub each-init : goal.each-init
each-init c = record {
  inside = omega arith;
  lent = c.requires.empty ∙ sym (memory-past c.args.copies.now (length c.args.copies.now) (omega arith));
  left = subst (λ (m : Memory). HaveLeft c.args.arena.now c.args.arena.now m) (sym c.requires.empty)
      (left-start c.args.arena.now);
}

pub lend_copy-requires-clause-free : goal.lend_copy-requires-clause-free
lend_copy-requires-clause-free c =
    let copy = c.index-copies-at.result in
    let next = next-copy c.args.copies.now c.each.at copy c.requires.rising (omega arith) c.each.invariant.inside
    c.index-copies-at.is in
    free_after c.args.arena.now c.each.arena c.each.memory copy.0 c.each.invariant.left
    (ap (λ (m : Memory). has_block m copy.0) c.each.invariant.lent ∙ next.new)
    (c.requires.free copy.0 (ap is_some next.there))

pub lend_copy-requires-clause-apart : goal.lend_copy-requires-clause-apart
lend_copy-requires-clause-apart c =
    let copy = c.index-copies-at.result in
    let next = next-copy c.args.copies.now c.each.at copy c.requires.rising (omega arith) c.each.invariant.inside
    c.index-copies-at.is in
    ap (λ (m : Memory). has_block m copy.0) c.each.invariant.lent ∙ next.new

pub lend_copy-requires-clause-whole : goal.lend_copy-requires-clause-whole
lend_copy-requires-clause-whole c =
    let copy = c.index-copies-at.result in
    let next = next-copy c.args.copies.now c.each.at copy c.requires.rising (omega arith) c.each.invariant.inside
    c.index-copies-at.is in
    (c.requires.whole.block copy.0 copy.1 next.there).size

pub each-preserved : goal.each-preserved
each-preserved c =
    let copy = c.index-copies-at.result in
    let next = next-copy c.args.copies.now c.each.at copy c.requires.rising (omega arith) c.each.invariant.inside
    c.index-copies-at.is in
    let lent = lend-next c.args.copies.now c.args.arena.now c.each.arena _ c.each.memory _ c.each.at copy next
    c.each.invariant.lent c.each.invariant.left c.requires.free c.in_ok-lend_copy.ensures.lent
    c.in_ok-lend_copy.ensures.left in
    record { inside = omega arith; lent = lent.0; left = lent.1 }
