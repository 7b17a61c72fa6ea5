use Rattle.std.proofs.Common.{◌≡◌, length, ℕ, ◌+◌, ◌-◌, ◌*◌, ◌/◌, ◌%◌, refl, arith, add-zero}
use Rattle.dma_arena.specs.Memory.{read_at}
use Rattle.dma_arena.proofs.Chunks.{read_pass, lent_first}
use Rattle.dma_arena.proofs.Bus.{lent_end}
use Rattle.dma_arena.proofs.ranges.read_bytes.Goals as goal

pub loop-done-init : goal.loop-done-init
unfolding read_at
loop-done-init c =
    let e : length c.args.bytes.now - 0 ≡ length c.args.bytes.now = omega arith in
    record { below = omega arith; lent = rw (add-zero, e) c.requires.lent; read = refl }

pub overflow_add-at : goal.overflow_add-at
overflow_add-at c =
    let h = lent_end c.args.blocks.now (c.args.address + c.loop-done.done)
    (length c.loop-done.bytes - c.loop-done.done) c.requires.whole c.loop-done.invariant.lent (omega arith) in
    omega (arith, h)

pub overflow_cast-at : goal.overflow_cast-at
overflow_cast-at c =
    let h = lent_end c.args.blocks.now (c.args.address + c.loop-done.done)
    (length c.loop-done.bytes - c.loop-done.done) c.requires.whole c.loop-done.invariant.lent (omega arith) in
    omega (arith, h)

pub read_part-requires-in-loop-done-clause-lent : goal.read_part-requires-in-loop-done-clause-lent
read_part-requires-in-loop-done-clause-lent c =
    lent_first c.args.blocks.now (c.args.address + c.loop-done.done)
    (length c.loop-done.bytes - c.loop-done.done) c.loop-done.invariant.lent (omega arith)

pub loop-done-preserved : goal.loop-done-preserved
loop-done-preserved c =
    let start : ℕ = c.args.address + c.loop-done.done in
    let at : ℕ = 2048 * (start / 2048) + start % 2048 in
    let end : ℕ = c.loop-done.done + c.min-len.result in
    let all =
    read_pass c.args.blocks.now c.args.address at c.loop-done.done c.min-len.result end
    (length c.loop-done.bytes) c.loop-done.bytes c.read_part-in-loop-done.new.bytes refl refl (omega arith)
    (omega arith) c.loop-done.invariant.lent c.loop-done.invariant.read c.read_part-in-loop-done.ensures.read in
    record { below = all.0; lent = all.1; read = all.2 }

pub overflow_cast-address : goal.overflow_cast-address
overflow_cast-address c =
    let some = (c.if-is_in_one.ensures.0 refl).0 in
    let h = lent_end c.args.blocks.now c.args.address (length c.args.bytes.now) c.requires.whole c.requires.lent some in
    omega (arith, h)

pub read_part-requires-clause-lent : goal.read_part-requires-clause-lent
read_part-requires-clause-lent c =
    let some = (c.if-is_in_one.ensures.0 refl).0 in
    lent_first c.args.blocks.now c.args.address (length c.args.bytes.now) c.requires.lent some
