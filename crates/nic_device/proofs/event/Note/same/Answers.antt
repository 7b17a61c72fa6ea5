use Rattle.std.proofs.Common.{sym, ap, ◌∙◌}
use Rattle.nic_device.specs.NotesHolding.{Held}
use Rattle.nic_device.proofs.Trimmed.{block, held-same, same-block}
use Rattle.nic_device.proofs.event.Note.same.Goals as goal

pub returns : goal.returns
returns c = (
  λ is.
      sym c.self.view_is ∙ ap (λ (h : Held). block h.number h.kept h.zeros) (c.same.ensures.0 is) ∙ c.other.view_is,
  λ is.
      c.same.ensures.1
      (held-same _ _ (same-block _ _ _ _ _ _ c.self.invariant c.other.invariant
      (c.self.view_is ∙ is ∙ sym c.other.view_is))),
)
