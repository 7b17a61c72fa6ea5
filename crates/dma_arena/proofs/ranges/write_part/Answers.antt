use Rattle.std.proofs.Common.{◌+◌, ◌*◌}
use Rattle.dma_arena.proofs.Bus.{IsWhole-write_at}
use Rattle.dma_arena.proofs.Chunks.{written_in}
use Rattle.dma_arena.proofs.ranges.write_part.Goals as goal

pub returns-clause-whole : goal.returns-clause-whole
returns-clause-whole c =
    rw (written_in c.args.blocks.now c.put.new.self c.args.number c.args.offset c.args.bytes.now c.requires.whole
    c.requires.lent c.requires.room c.put.ensures)
    (IsWhole-write_at c.args.blocks.now (2048 * c.args.number + c.args.offset) c.args.bytes.now c.requires.whole)

pub returns-clause-written : goal.returns-clause-written
returns-clause-written c =
    written_in c.args.blocks.now c.put.new.self c.args.number c.args.offset c.args.bytes.now c.requires.whole
    c.requires.lent c.requires.room c.put.ensures
