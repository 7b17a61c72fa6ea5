use Rattle.std.proofs.Common.{◌≡◌, length, ℕ, ◌+◌, ◌-◌, ◌*◌, ◌/◌, ◌%◌, List, refl, arith, add-zero, take, drop}
use Rattle.dma_arena.specs.Memory.{write_at}
use Rattle.dma_arena.proofs.Chunks.{lent_step, written_step, lent_first}
use Rattle.dma_arena.proofs.Bus.{lent_end}
use Rattle.dma_arena.proofs.ranges.write_bytes.Goals as goal

pub loop-done-init : goal.loop-done-init
unfolding write_at
loop-done-init c =
    let e : length c.args.bytes.now - 0 ≡ length c.args.bytes.now = omega arith in
    record { whole = c.requires.whole; below = omega arith; lent = rw (add-zero, e) c.requires.lent; written = refl }

pub overflow_add-at : goal.overflow_add-at
overflow_add-at c =
    let h = lent_end c.loop-done.blocks (c.args.address + c.loop-done.done)
    (length c.args.bytes.now - c.loop-done.done) c.loop-done.invariant.whole c.loop-done.invariant.lent (omega arith) in
    omega (arith, h)

pub overflow_cast-at : goal.overflow_cast-at
overflow_cast-at c =
    let h = lent_end c.loop-done.blocks (c.args.address + c.loop-done.done)
    (length c.args.bytes.now - c.loop-done.done) c.loop-done.invariant.whole c.loop-done.invariant.lent (omega arith) in
    omega (arith, h)

pub write_part-requires-in-loop-done-clause-lent : goal.write_part-requires-in-loop-done-clause-lent
write_part-requires-in-loop-done-clause-lent c =
    lent_first c.loop-done.blocks (c.args.address + c.loop-done.done)
    (length c.args.bytes.now - c.loop-done.done) c.loop-done.invariant.lent (omega arith)

pub loop-done-preserved : goal.loop-done-preserved
loop-done-preserved c =
    let start : ℕ = c.args.address + c.loop-done.done in
    let at : ℕ = 2048 * (start / 2048) + start % 2048 in
    let len : (c.loop-done.done + c.min-len.result) - c.loop-done.done ≡ c.min-len.result = omega arith in
    let part : List ℕ =
    take ((c.loop-done.done + c.min-len.result) - c.loop-done.done) (drop c.loop-done.done c.args.bytes.now) in
    record {
      whole = c.write_part-in-loop-done.ensures.whole;
      below = omega arith;
      lent = lent_step c.loop-done.blocks
          c.write_part-in-loop-done.new.blocks c.args.address at c.loop-done.done c.min-len.result
          (length c.args.bytes.now) part c.write_part-in-loop-done.ensures.written c.loop-done.invariant.lent
          (omega arith);
      written =
          written_step c.args.blocks.now c.loop-done.blocks
          c.write_part-in-loop-done.new.blocks c.args.address at c.loop-done.done c.min-len.result c.args.bytes.now part
          c.loop-done.invariant.written c.write_part-in-loop-done.ensures.written (omega arith) (rw len refl)
          (omega arith);
    }

pub overflow_cast-address : goal.overflow_cast-address
overflow_cast-address c =
    let some = (c.if-is_in_one.ensures.0 refl).0 in
    let h = lent_end c.args.blocks.now c.args.address (length c.args.bytes.now) c.requires.whole c.requires.lent some in
    omega (arith, h)

pub write_part-requires-clause-lent : goal.write_part-requires-clause-lent
write_part-requires-clause-lent c =
    let some = (c.if-is_in_one.ensures.0 refl).0 in
    lent_first c.args.blocks.now c.args.address (length c.args.bytes.now) c.requires.lent some
