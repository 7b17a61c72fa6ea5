-- Lists of events that run in order.
use Rattle.std.specs.Prelude.{◌≡◌, ◌<◌, List, [], ◌∷◌, length, take, drop}
use Rattle.rx_ring.specs.DmaArena.Block.{Block}
use Rattle.nic_device.specs.State.{State}
use Rattle.nic_device.specs.Step.{step_of}
use Rattle.nic_device.specs.declared.event.Event.{Event}
use Rattle.nic_device.specs.declared.event.Reply.{Reply}

-- The reply to each event.
abbrev pub replies_of : State → List (Event Block) → List (Reply Block)
replies_of s [] = []
replies_of s (event ∷ events) = (step_of s event).reply ∷ replies_of (step_of s event).state events

-- The state after the last event.
abbrev pub state_after : State → List (Event Block) → State
state_after s [] = s
state_after s (event ∷ events) = state_after (step_of s event).state events

-- If a run stops, the replies and the state are the results of the events that ran. The other events, at least one, are
-- returned unchanged.
pub record IsStop (old : State) (events : List (Event Block)) (replies : List (Reply Block))
    (rest : List (Event Block)) (new : State) : Type 0 where
  pub replies_made : replies ≡ replies_of old (take (length replies) events)
  pub state_made : new ≡ state_after old (take (length replies) events)
  pub rest_left : rest ≡ drop (length replies) events
  pub some_left : length replies < length events
