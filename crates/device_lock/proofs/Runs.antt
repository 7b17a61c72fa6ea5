-- Lemmas that relate histories to runs of their events.
use Rattle.std.proofs.Common.{◌≡◌, List, [], ◌∷◌, map, refl, ap, get_or, drop}
use Rattle.nic_device.specs.Run.{replies_of}
use Rattle.nic_device.specs.State.{State}
use Rattle.nic_device.specs.Step.{step_of}
use Rattle.device_lock.specs.declared.entry.Entry.{Entry}
use Rattle.device_lock.specs.History.{IsLegal}
use Rattle.device_lock.specs.Laws.{LegalIsReplies, LeadsToStateAfter}

legal_replies : (s : State) (h : List Entry) → IsLegal s h
    → map (λ e. e.reply) h ≡ replies_of s (map (λ e. e.event) h)
legal_replies s [] legal = refl
legal_replies s (e ∷ es) legal =
    rw (legal.0, legal_replies (step_of s e.event).state es legal.1) refl

replies_legal : (s : State) (h : List Entry) → map (λ e. e.reply) h ≡ replies_of s (map (λ e. e.event) h)
    → IsLegal s h
replies_legal s [] is = tt
replies_legal s (e ∷ es) is =
    (ap (λ rs. get_or rs 0 e.reply) is, replies_legal (step_of s e.event).state es (ap (λ rs. drop 1 rs) is))

pub legal_is_replies : LegalIsReplies
legal_is_replies s h = (legal_replies s h, replies_legal s h)

pub leads_to_state_after : LeadsToStateAfter
leads_to_state_after s [] = refl
leads_to_state_after s (e ∷ es) = leads_to_state_after (step_of s e.event).state es
