-- Which causes an event raises, given its reply.
use Rattle.std.specs.Prelude.{ℕ, ◌≡◌, false, ⊤, Option, Some, None, if◌then◌else◌}
use Rattle.nic_device.specs.IntrUnit.Group.{queue_causes}
use Rattle.nic_device.specs.IntrUnit.Interrupts.{Interrupts, raised}
use Rattle.nic_device.specs.IntrUnit.declared.group.Group.TheVariants as group
use Rattle.nic_device.specs.RegisterFile.Groups.{interrupts_of, vector_entry}
use Rattle.nic_device.specs.Interrupt.{group_of_queue, missed_cause, fault_cause, link_cause}
use Rattle.nic_device.specs.declared.event.Event.TheVariants as event
use Rattle.device_laws.specs.Prelude.{Advanced, Block, Dir, Done, Dropped, Event, Fault, Full, Group, IsSound, Reply}
use Rattle.device_laws.specs.Prelude.{Rx, Sent, State, Tx, Why, Wrote, after, is_group, reply_to}

-- Causes in one interrupt group.
pub record Causes : Type 0 where
  pub group : Group
  pub bits : ℕ

-- A cause of the physical function.
abbrev pub device_cause : ℕ → Causes
device_cause bits = record { group = group.Pf; bits = bits }

-- The causes that a side of a queue raises in the queue's group, as IVAR or PVTIVAR assigns them.
abbrev pub queue_cause : State → Dir → ℕ → Causes
queue_cause s dir queue =
    let g = group_of_queue s.registers s.vfs queue in
    record { group = g; bits = queue_causes g (vector_entry s.registers g dir queue) }

-- A frame that arrives raises a cause if it finds the receive list full.
abbrev pub raised_dropped : Why → Option Causes
raised_dropped Full = Some (device_cause missed_cause)
raised_dropped other = None

abbrev pub raised_arrived : Reply Block → Option Causes
raised_arrived (Dropped why) = raised_dropped why
raised_arrived other = None

-- A receive step raises its queue's receive cause if the step completes a frame, and the fault cause after a fault.
abbrev pub raised_received : State → Reply Block → Option Causes
raised_received s (Wrote queue slot end desc at len) = if end then Some (queue_cause s Rx queue) else None
raised_received s (Fault queue fault) = Some (device_cause fault_cause)
raised_received s other = None

-- A transmit step raises its queue's transmit cause if it writes back a report, and the fault cause after a fault.
abbrev pub raised_reported : State → ℕ → Option ℕ → Option Causes
raised_reported s queue (Some back) = Some (queue_cause s Tx queue)
raised_reported s queue None = None

abbrev pub raised_sent : State → Reply Block → Option Causes
raised_sent s (Advanced queue slot back) = raised_reported s queue back
raised_sent s (Sent queue len back) = raised_reported s queue back
raised_sent s (Fault queue fault) = Some (device_cause fault_cause)
raised_sent s other = None

-- A link change raises a cause.
abbrev pub raised_linked : Reply Block → Option Causes
raised_linked Done = Some (device_cause link_cause)
raised_linked other = None

-- The causes that an event raises, if any.
abbrev pub raises : State → Event Block → Reply Block → Option Causes
raises s (event.Arrive frame) reply = raised_arrived reply
raises s event.RxStep reply = raised_received s reply
raises s (event.TxStep queue) reply = raised_sent s reply
raises s (event.Link up) reply = raised_linked reply
raises s other reply = None

-- The interrupt state of a group after causes are raised.
abbrev pub after_causes : Option Causes → Group → Interrupts → Interrupts
after_causes (Some c) g i = if is_group c.group g then raised i c.bits false else i
after_causes None g i = i

-- The event is neither a register access nor an interrupt step.
abbrev pub IsOfTheDevice : Event Block → Type 0
IsOfTheDevice (event.Read port number) = ⊥
IsOfTheDevice (event.Write port number word) = ⊥
IsOfTheDevice (event.IntStep g) = ⊥
IsOfTheDevice other = ⊤

-- An event other than a register access or an interrupt step sets the causes that it raises in each group, and leaves
-- the rest of the group's interrupt state unchanged.
abbrev pub EventsRaise : Type 0
EventsRaise =
    (s : State) → IsSound s → (e : Event Block) → IsOfTheDevice e → (g : Group) →
    interrupts_of (after s e).registers g ≡ after_causes (raises s e (reply_to s e)) g (interrupts_of s.registers g)
