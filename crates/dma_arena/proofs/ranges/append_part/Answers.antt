use Rattle.std.proofs.Common.{◌≡◌, ◌+◌, ◌-◌, refl, arith, sym, ◌∙◌}
use Rattle.dma_arena.specs.Memory.{part}
use Rattle.dma_arena.proofs.Chunks.{read_in}
use Rattle.dma_arena.proofs.ranges.append_part.Goals as goal

pub returns-clause-read : goal.returns-clause-read
unfolding part
returns-clause-read c =
    let len : (c.args.offset + c.args.len) - c.args.offset ≡ c.args.len = omega arith in
    let read =
    read_in c.args.blocks.now c.args.number c.in-Some.buf.now c.args.offset c.args.len c.requires.whole
    (sym c.in-Some.ensures) c.requires.inside in
    c.append_reserved.ensures.appended ∙ rw (len, c.bytes.ensures.value, read) refl
