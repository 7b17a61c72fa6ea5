use Rattle.std.proofs.Common.{◌≡◌, ◌∙◌, Option, Some, None, refl, sym}
use Rattle.dma_ring.specs.declared.fault.RingFault.{RingFault}
use Rattle.tx_ring.proofs.Fetches.{can_send}
use Rattle.tx_ring.proofs.slot.fetch.Goals as goal

none_is : (o : Option RingFault) → ((fault : RingFault) → o ≡ Some fault → ⊥) → o ≡ None
none_is None never = refl
none_is (Some fault) never = absurd (never fault refl)

pub send-requires-clause-passed : goal.send-requires-clause-passed
send-requires-clause-passed c =
    let tests = rw c.bytes.ensures at c.descriptor_fault.ensures in
    let s = c.second_half.ensures in
    let command = c.command_in.ensures in
    can_send _ _ _ _ _ (sym tests ∙ none_is _ c.in_default.not-Some)
    (rw (command, s) at c.if-command_in-eq-CONTEXT.false)
