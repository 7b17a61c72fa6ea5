use Rattle.std.proofs.Common.{◌≤◌, refl, sym, arith}
use Rattle.dma_arena.specs.Memory.{has_block}
use Rattle.dma_arena.proofs.Chunks.{far_gone}
use Rattle.dma_arena.proofs.ranges.is_lent_block.Goals as goal

pub returns-in-Err : goal.returns-in-Err
returns-in-Err c =
    let far : 65536 ≤ c.args.number = omega (arith, c.in-Err.ensures) in
    sym (far_gone c.args.blocks.now c.args.number (has_block c.args.blocks.now c.args.number) c.requires refl far)
