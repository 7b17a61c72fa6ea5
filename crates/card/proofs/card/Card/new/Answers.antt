use Rattle.std.proofs.Common.{ap, sym, subst}
use Rattle.nic_device.specs.State.{State}
use Rattle.card.specs.Card.{AreShared}
use Rattle.card.proofs.Sharing.{shared-new}
use Rattle.card.proofs.card.Card.new.Goals as goal

pub invariant_of-result : goal.invariant_of-result
invariant_of-result c =
    subst (AreShared c.in_ok-device.device.memory) (sym c.in-Ok.ensures.ok)
    (shared-new c.in_ok-device.device.memory c.args.blocks (ap (λ (s : State). s.memory) c.in_ok-device.ensures.made))
