-- The calls made to a shared device, in the order in which the device handled them.
use Rattle.std.specs.Prelude.{◌≡◌, ℕ, ◌<◌, ◌==◌, List, [], ◌∷◌, map, filter, ⊤}
use Rattle.nic_device.specs.DmaArena.Block.{Block}
use Rattle.nic_device.specs.Sound.{IsEvent}
use Rattle.nic_device.specs.State.{State}
use Rattle.nic_device.specs.Step.{step_of}
use Rattle.nic_device.specs.declared.event.Event.{Event}
use Rattle.nic_device.specs.declared.event.Reply.{Reply}
use Rattle.device_lock.specs.declared.entry.Call.{Call}
use Rattle.device_lock.specs.declared.entry.Entry.{Entry}

-- The state that a history leads to.
abbrev pub leads_to : State → List Entry → State
leads_to s [] = s
leads_to s (e ∷ es) = leads_to (step_of s e.event).state es

-- Each reply is the device's, starting from this state.
abbrev pub IsLegal : State → List Entry → Type 0
IsLegal s [] = ⊤
IsLegal s (e ∷ es) = (e.reply ≡ (step_of s e.event).reply) × IsLegal (step_of s e.event).state es

-- Each event is one that a driver can cause.
abbrev pub AreEvents : List Entry → Type 0
AreEvents [] = ⊤
AreEvents (e ∷ es) = IsEvent e.event × AreEvents es

-- Each tag is below this number.
abbrev pub AllBelow : ℕ → List Entry → Type 0
AllBelow n [] = ⊤
AllBelow n (e ∷ es) = (e.pass < n) × AllBelow n es

-- The entry for an event that a pass caused, with the reply.
abbrev pub entry_of : ℕ → Event Block → Reply Block → Entry
entry_of tag event reply = record { pass = tag; event = event; reply = reply }

-- The call that an entry records.
abbrev pub call_in : Entry → Call
call_in e = record { event = e.event; reply = e.reply }

-- The calls of one pass, in order.
abbrev pub calls_of : ℕ → List Entry → List Call
calls_of tag h = map call_in (filter (λ e. e.pass == tag) h)
