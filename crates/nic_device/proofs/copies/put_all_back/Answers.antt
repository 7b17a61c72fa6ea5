use Rattle.std.proofs.Common.{◌≡◌, ◌-◌, ◌∷◌, List, ℕ, None, refl, sym, ap, subst, ◌∙◌, arith, drop, length}
use Rattle.std.specs.FinMap as map
use Rattle.nic_device.specs.Blocks.{memory_of}
use Rattle.nic_device.proofs.BlockCopies.{IsFrom, next-copy}
use Rattle.nic_device.proofs.Returning.{all-returned, no-copy-here, no-copy-left, returned-next, start-return, still-lent, written-next}
use Rattle.nic_device.proofs.copies.put_all_back.Goals as goal
use Rattle.nic_device.proofs.copies.put_all_back.Goals.{else-at-gt0-via-then-at-gt0+else-copies-at, else-at-gt0-via-else-at-gt0}

pub each-init : goal.each-init
each-init c =
    start-return c.args.copies.now c.args.arena.now c.args.memory.now (length c.args.copies.now) c.end-number.result
    refl c.end-number.ensures.above c.requires.lent c.requires.blocks c.requires.away

pub write_block-requires-clause-lent : goal.write_block-requires-clause-lent
write_block-requires-clause-lent c =
    let copy = c.index-copies-at.result in
    let next = next-copy c.args.copies.now c.each.at copy c.requires.rising (omega arith) c.each.invariant.inside
    c.index-copies-at.is in
    still-lent c.args.copies.now c.args.arena.now c.each.arena c.args.memory.now c.each.memory c.each.at c.each.number
    copy c.each.invariant c.requires.lent next (omega arith)
    (ap (λ (x : ℕ × List ℕ). x.0) c.index-copies-at.is ∙ c.if-copies-at.true)

pub write_block-requires-clause-whole : goal.write_block-requires-clause-whole
write_block-requires-clause-whole c =
    let copy = c.index-copies-at-then-copies-at.result in
    let next = next-copy c.args.copies.now c.each.at copy c.requires.rising (omega arith) c.each.invariant.inside
    c.index-copies-at-then-copies-at.is in
    ap (λ (x : ℕ × List ℕ). length x.1) (sym c.index-copies-at-then-copies-at.is)
    ∙ (c.requires.whole.block copy.0 copy.1 next.there).size

pub each-preserved-then-copies-at : goal.each-preserved-then-copies-at
each-preserved-then-copies-at c =
    let tested = c.index-copies-at.result in
    let copy = c.index-copies-at-then-copies-at.result in
    let first = next-copy c.args.copies.now c.each.at tested c.requires.rising (omega arith) c.each.invariant.inside
    c.index-copies-at.is in
    let next = next-copy c.args.copies.now c.each.at copy c.requires.rising (omega arith) c.each.invariant.inside
    c.index-copies-at-then-copies-at.is in
    let both : (tested ∷ drop c.each.at c.args.copies.now) ≡ (copy ∷ drop c.each.at c.args.copies.now) =
    sym first.next ∙ next.next in
    let same : tested ≡ copy = cc in
    let number : tested.0 ≡ c.each.number - 1 =
    ap (λ (x : ℕ × List ℕ). x.0) c.index-copies-at.is ∙ c.if-copies-at.true in
    written-next c.args.copies.now c.args.arena.now c.each.arena c.args.memory.now c.each.memory _ c.each.at
    c.each.number copy c.each.invariant c.requires.lent c.requires.whole next (omega arith) (omega arith)
    (sym (ap (λ (x : ℕ × List ℕ). x.0) same) ∙ number)
    (c.write_block.ensures
    ∙ ap (λ (x : ℕ × List ℕ). map.insert c.each.memory (c.each.number - 1) x.1)
    (sym c.index-copies-at-then-copies-at.is))

pub each-preserved : goal.each-preserved
each-preserved c =
    let none = elim c.else-at-gt0.branch as
    (λ _. map.get (memory_of c.args.copies.now) (c.each.number - 1) ≡ None) [
      | else-at-gt0-via-then-at-gt0+else-copies-at w ↦
          let copy = w.index-copies-at.result in
          let next = next-copy c.args.copies.now c.each.at copy c.requires.rising (omega (arith, w.if-at-gt0.true))
          c.each.invariant.inside w.index-copies-at.is in
          no-copy-here c.args.copies.now c.each.at c.each.number copy c.requires.rising c.each.invariant.from next
          (omega arith)
          (λ is. w.if-copies-at.false (sym (ap (λ (x : ℕ × List ℕ). x.0) w.index-copies-at.is) ∙ is))
      | else-at-gt0-via-else-at-gt0 w ↦
          let zero : c.each.at ≡ 0 = omega (arith, w.if-at-gt0.false) in
          no-copy-left c.args.copies.now c.each.number
          (subst (λ (k : ℕ). IsFrom (memory_of c.args.copies.now) (memory_of (drop k c.args.copies.now))
          c.each.number) zero c.each.invariant.from) (omega arith)
    ] in
    returned-next c.args.copies.now c.args.arena.now c.each.arena _ c.args.memory.now c.each.memory _ c.each.at
    c.each.number c.each.invariant (omega arith) none c.return_block.ensures.taken c.return_block.ensures.away
    c.return_block.ensures.left

pub returns-clause-put : goal.returns-clause-put
returns-clause-put c =
    all-returned c.args.copies.now c.args.arena.now c.each.arena c.args.memory.now c.each.memory c.each.at
    c.each.number c.each.invariant (omega arith)
