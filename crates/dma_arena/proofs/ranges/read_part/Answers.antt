use Rattle.std.proofs.Common.{◌≡◌, length, ◌+◌, ◌-◌, refl, arith, sym, ◌∙◌}
use Rattle.dma_arena.specs.Memory.{part}
use Rattle.dma_arena.proofs.Chunks.{read_in}
use Rattle.dma_arena.proofs.ranges.read_part.Goals as goal

pub returns : goal.returns
unfolding part
returns c =
    let len : (c.args.offset + length c.args.bytes.now) - c.args.offset ≡ length c.args.bytes.now = omega arith in
    record {
      read =
          c.copy_from_slice.ensures.after ∙ rw (len, c.bytes.ensures.value) refl
          ∙ sym (read_in c.args.blocks.now c.args.number c.in-Some.buf.now c.args.offset
          (length c.args.bytes.now) c.requires.whole (sym c.in-Some.ensures) c.requires.room);
    }
