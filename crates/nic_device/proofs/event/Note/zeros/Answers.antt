use Rattle.std.proofs.Common.{ap, sym, ◌∙◌, ◌-◌, length}
use Rattle.rx_ring.specs.DmaArena.Block.{Block}
use Rattle.nic_device.specs.NotesTrimming.{kept_len}
use Rattle.nic_device.proofs.Trimmed.{zeros_of_all}
use Rattle.nic_device.proofs.event.Note.zeros.Goals as goal

pub returns : goal.returns
returns c =
    let all = zeros_of_all c.self.inside.holding.kept c.self.inside.holding.zeros c.self.invariant in
    c.from.ensures ∙ c.zeros.ensures ∙ sym all ∙ ap (λ (b : Block). length b.bytes - kept_len b.bytes) c.self.view_is
