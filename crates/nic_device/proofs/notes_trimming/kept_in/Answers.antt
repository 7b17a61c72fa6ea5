use Rattle.std.proofs.Common.{List, ℕ, length, ap, sym, ◌∙◌, arith, subst}
use Rattle.rx_ring.specs.DmaArena.Block.{IsZeroFrom}
use Rattle.nic_device.specs.NotesTrimming.{kept_len}
use Rattle.nic_device.proofs.Trimmed.{zeros_on}
use Rattle.nic_device.proofs.notes_trimming.kept_in.Goals as goal

pub kept_before-requires-clause-within : goal.kept_before-requires-clause-within
kept_before-requires-clause-within c =
    let same = ap length c.bytes.ensures.value in
    let size = c.bytes.ensures.whole.size in
    omega (arith, same, size, c.zeros_from.ensures.within)

pub kept_before-requires-clause-zeros : goal.kept_before-requires-clause-zeros
kept_before-requires-clause-zeros c =
    zeros_on c.bytes.result.now c.zeros_from.result (ap length c.bytes.ensures.value ∙ c.bytes.ensures.whole.size)
    (subst (λ (l : List ℕ). IsZeroFrom c.zeros_from.result l) (sym c.bytes.ensures.value) c.zeros_from.ensures.zeros)

pub returns : goal.returns
returns c = c.kept_before.ensures ∙ ap kept_len c.bytes.ensures.value
