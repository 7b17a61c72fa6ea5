use Rattle.std.proofs.Common.{refl, ap, ◌∙◌}
use Rattle.std.specs.FinMap as map
use Rattle.nic_device.specs.DmaArena.Numbers.{all_free}
use Rattle.nic_device.specs.State.{State}
use Rattle.card.specs.Card.{AreShared}
use Rattle.card.specs.Kept.{without_memory}
use Rattle.card.proofs.Restoring.{kept-shared, kept-is}
use Rattle.card.proofs.Sharing.{shared-new}
use Rattle.card.proofs.card.Card.keep_without_memory.Goals as goal

-- The only block is free.
one_free : AreShared map.empty (all_free 0 1)
one_free = shared-new map.empty 1 refl

abbrev bare : State → State
bare s = record s { memory = map.empty }

pub invariant_of-result : goal.invariant_of-result
invariant_of-result c =
    kept-shared (bare c.self.inside.device) c.in-Ok.device (all_free 0 1) 1 one_free c.in-Ok.ensures refl

pub returns-in-Ok : goal.returns-in-Ok
returns-in-Ok c =
    kept-is (bare c.self.inside.device) c.in-Ok.device (all_free 0 1) 1 one_free c.in-Ok.ensures refl
    ∙ ap without_memory c.self.view_is
