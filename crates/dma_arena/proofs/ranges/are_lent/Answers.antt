use Rattle.std.proofs.Common.{◌≡◌, ◌+◌, ◌/◌, true, false, refl, sym, ◌∙◌, arith}
use Rattle.dma_arena.specs.Memory.{has_block, is_lent}
use Rattle.dma_arena.proofs.Chunks.{lent_far, missing, one_block, here_more}
use Rattle.dma_arena.proofs.ranges.are_lent.Goals as goal

pub loop-done-init : goal.loop-done-init
unfolding is_lent
loop-done-init c = record { below = omega arith; lent = refl }

pub overflow_add-at : goal.overflow_add-at
overflow_add-at c =
    let h = lent_far c.args.blocks.now c.args.address c.loop-done.done c.requires c.loop-done.invariant.lent
    (omega arith) in
    omega (arith, h)

pub returns-then-not-is_lent_block : goal.returns-then-not-is_lent_block
returns-then-not-is_lent_block c =
    let gone : has_block c.args.blocks.now ((c.args.address + c.loop-done.done) / 2048) ≡ false =
    sym c.if-not-is_lent_block.ensures in
    sym (missing c.args.blocks.now c.args.address c.loop-done.done c.args.len (omega arith) gone)

pub returns-then-is_in_one : goal.returns-then-is_in_one
returns-then-is_in_one c =
    let one = c.if-is_in_one.ensures.0 refl in
    c.is_lent_block.ensures ∙ one_block c.args.blocks.now c.args.address c.args.len one.0 one.1

pub loop-done-preserved : goal.loop-done-preserved
loop-done-preserved c =
    let there : has_block c.args.blocks.now ((c.args.address + c.loop-done.done) / 2048) ≡ true =
    sym c.if-not-is_lent_block.ensures in
    record {
      below = omega arith;
      lent = here_more c.args.blocks.now c.args.address c.loop-done.done c.min-done.result there
          (omega arith) c.loop-done.invariant.lent;
    }
