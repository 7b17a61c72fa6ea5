-- The effect of a single event.
use Rattle.std.specs.Prelude.{ℕ, ◌≡◌, ◌≢◌, Bool, true, false, Option, Some, None, is_some}
use Rattle.rx_ring.specs.DmaArena.Block.{Block}
use Rattle.nic_device.specs.State.{State}
use Rattle.nic_device.specs.Outcome.{Outcome}
use Rattle.nic_device.specs.Access.{register_read, register_written}
use Rattle.nic_device.specs.Lending.{lent, taken, peeked, poked}
use Rattle.nic_device.specs.Arrival.{arrived}
use Rattle.nic_device.specs.Receive.{received}
use Rattle.nic_device.specs.Transmit.{transmitted}
use Rattle.nic_device.specs.Switching.{queue_switched}
use Rattle.nic_device.specs.Interrupt.{interrupted}
use Rattle.nic_device.specs.Eeprom.{eeprom_stepped}
use Rattle.nic_device.specs.Link.{link_set, collected}
use Rattle.nic_device.specs.declared.event.Event.{Event}
use Rattle.nic_device.specs.declared.event.Event.TheVariants as event
use Rattle.nic_device.specs.declared.event.Reply.{Reply}
use Rattle.nic_device.specs.declared.event.Reply.TheVariants as reply

-- One event: its reply, and the state after it.
unfoldable pub step_of : State → Event Block → Outcome
step_of s (event.Read port number) = register_read s port number
step_of s (event.Write port number word) = register_written s port number word
step_of s (event.Lend block) = lent s block
step_of s (event.Take number) = taken s number
step_of s (event.Peek16 address) = peeked s address
step_of s (event.Poke16 address bytes) = poked s address bytes
step_of s (event.Arrive frame) = arrived s frame
step_of s event.RxStep = received s
step_of s (event.TxStep queue) = transmitted s queue
step_of s (event.IntStep group) = interrupted s group
step_of s (event.QueueStep dir queue) = queue_switched s dir queue
step_of s event.EepromStep = eeprom_stepped s
step_of s (event.Link up) = link_set s up
step_of s event.Collect = collected s

-- The state after an event, and the reply to it.
abbrev pub after : State → Event Block → State
after s e = (step_of s e).state

abbrev pub reply_to : State → Event Block → Reply Block
reply_to s e = (step_of s e).reply

-- Only these events may fail because memory runs out: a `Lend` or `Arrive` that would succeed, and a transmit step that
-- isn't idle, for a queue below 128.
abbrev pub TakesMemory : State → Event Block → Type 0
TakesMemory s (event.Lend block) = (lent s block).reply ≡ reply.Done
TakesMemory s (event.Arrive frame) = (arrived s frame).reply ≡ reply.Done
TakesMemory s (event.TxStep queue) =
    ((transmitted s queue).reply ≢ reply.NoQueue) × ((transmitted s queue).reply ≢ reply.Idle)
TakesMemory s other = ⊥

-- The value in a reply, if the access reached a register.
abbrev pub reported_word : Reply Block → Option ℕ
reported_word (reply.Word word) = Some word
reported_word other = None

-- The block that an event lends, and the block that a reply returns.
abbrev pub lent_block : Event Block → Option Block
lent_block (event.Lend block) = Some block
lent_block other = None

abbrev pub handed_block : Reply Block → Option Block
handed_block (reply.Buf block) = Some block
handed_block (reply.Twice block) = Some block
handed_block other = None

-- Whether an event lends a block or takes one back, and whether a reply returns one.
abbrev pub moves_block : Event Block → Bool
moves_block (event.Lend block) = true
moves_block (event.Take number) = true
moves_block other = false

abbrev pub hands_out : Reply Block → Bool
hands_out r = is_some (handed_block r)

-- Whether a reply reports a descriptor that couldn't be processed.
abbrev pub is_fault : Reply Block → Bool
is_fault (reply.Fault queue fault) = true
is_fault other = false
