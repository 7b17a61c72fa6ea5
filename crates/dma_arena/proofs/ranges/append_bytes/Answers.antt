use Rattle.std.proofs.Common.{◌≡◌, ℕ, length, ◌+◌, ◌-◌, ◌*◌, ◌/◌, ◌%◌, sym, refl, arith, add-zero}
use Rattle.std.proofs.lemmas.List.{append-nil}
use Rattle.dma_arena.specs.Memory.{read_at}
use Rattle.dma_arena.proofs.Chunks.{lent_first, lent_next, length-appended, append_step}
use Rattle.dma_arena.proofs.Bus.{lent_end}
use Rattle.dma_arena.proofs.ranges.append_bytes.Goals as goal

pub loop-done-init : goal.loop-done-init
unfolding read_at
loop-done-init c =
    let e : c.args.len - 0 ≡ c.args.len = omega arith in
    record {
      below = omega arith;
      lent = rw (add-zero, e) c.requires.lent;
      room = rw e c.requires.room;
      kept = omega arith;
      read = sym (append-nil c.args.bytes.now.items);
    }

pub overflow_add-at : goal.overflow_add-at
overflow_add-at c =
    let h = lent_end c.args.blocks.now (c.args.address + c.loop-done.done) (c.args.len - c.loop-done.done)
    c.requires.whole c.loop-done.invariant.lent (omega arith) in
    omega (arith, h)

pub overflow_cast-at : goal.overflow_cast-at
overflow_cast-at c =
    let h = lent_end c.args.blocks.now (c.args.address + c.loop-done.done) (c.args.len - c.loop-done.done)
    c.requires.whole c.loop-done.invariant.lent (omega arith) in
    omega (arith, h)

pub append_part-requires-in-loop-done-clause-lent : goal.append_part-requires-in-loop-done-clause-lent
append_part-requires-in-loop-done-clause-lent c =
    lent_first c.args.blocks.now (c.args.address + c.loop-done.done) (c.args.len - c.loop-done.done)
    c.loop-done.invariant.lent (omega arith)

pub loop-done-preserved : goal.loop-done-preserved
loop-done-preserved c =
    let start : ℕ = c.args.address + c.loop-done.done in
    let at : ℕ = 2048 * (start / 2048) + start % 2048 in
    let size : length c.append_part-in-loop-done.new.bytes.items ≡ length c.loop-done.bytes.items + c.min-more.result =
    length-appended c.args.blocks.now at c.min-more.result c.loop-done.bytes.items
    c.append_part-in-loop-done.new.bytes.items c.append_part-in-loop-done.ensures.read in
    record {
      below = omega arith;
      lent = lent_next c.args.blocks.now c.args.address c.loop-done.done c.min-more.result c.args.len
          c.loop-done.invariant.lent (omega arith);
      room = omega (arith, size, c.loop-done.invariant.room, c.append_part-in-loop-done.ensures.capacity);
      kept = omega (arith, c.loop-done.invariant.kept, c.append_part-in-loop-done.ensures.capacity);
      read =
          append_step c.args.blocks.now c.args.address at c.loop-done.done c.min-more.result c.args.bytes.now.items
          c.loop-done.bytes.items c.append_part-in-loop-done.new.bytes.items c.loop-done.invariant.read
          c.append_part-in-loop-done.ensures.read (omega arith);
    }

pub overflow_cast-address : goal.overflow_cast-address
overflow_cast-address c =
    let some = (c.if-is_in_one.ensures.0 refl).0 in
    let h = lent_end c.args.blocks.now c.args.address c.args.len c.requires.whole c.requires.lent some in
    omega (arith, h)

pub append_part-requires-clause-lent : goal.append_part-requires-clause-lent
append_part-requires-clause-lent c =
    let some = (c.if-is_in_one.ensures.0 refl).0 in
    lent_first c.args.blocks.now c.args.address c.args.len c.requires.lent some
