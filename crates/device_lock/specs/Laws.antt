-- How legal histories are related to the run of their events.
use Rattle.std.specs.Prelude.{◌≡◌, ◌↔◌, List, map}
use Rattle.nic_device.specs.Run.{replies_of, state_after}
use Rattle.nic_device.specs.State.{State}
use Rattle.device_lock.specs.declared.entry.Entry.{Entry}
use Rattle.device_lock.specs.History.{leads_to, IsLegal}

abbrev pub LegalIsReplies : Type 0
LegalIsReplies = (s : State) (h : List Entry)
    → IsLegal s h ↔ (map (λ e. e.reply) h ≡ replies_of s (map (λ e. e.event) h))

abbrev pub LeadsToStateAfter : Type 0
LeadsToStateAfter = (s : State) (h : List Entry) → leads_to s h ≡ state_after s (map (λ e. e.event) h)
