use Rattle.std.proofs.Common.{◌∙◌}
use Rattle.dma_arena.proofs.Bus.{is_lent-same, SameLent-write_at}
use Rattle.rx_ring.specs.Fill.{head_address}
use Rattle.rx_ring.proofs.slot.fill_buffer.Goals as goal

pub write16-requires : goal.write16-requires
write16-requires c =
    let same = SameLent-write_at c.args.memory.now c.args.at _ in
    rw (c.write_at.ensures, c.descriptor-desc.ensures)
    (is_lent-same _ c.args.memory.now same (head_address c.args.ring.now) 16 ∙ c.requires.lent)
