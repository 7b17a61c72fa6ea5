use Rattle.std.proofs.Common.{ap, sym, ◌∙◌, take}
use Rattle.rx_ring.specs.DmaArena.Block.{Block}
use Rattle.nic_device.specs.NotesTrimming.{kept_len}
use Rattle.nic_device.proofs.Trimmed.{kept_of_all}
use Rattle.nic_device.proofs.event.Note.kept.Goals as goal

pub returns : goal.returns
returns c =
    let all = kept_of_all c.self.inside.holding.kept c.self.inside.holding.zeros c.self.invariant in
    c.kept.ensures ∙ sym all ∙ ap (λ (b : Block). take (kept_len b.bytes) b.bytes) c.self.view_is
