-- The possible replies to an event, and how many bytes their notes copy.
use Rattle.std.specs.Prelude.{ℕ, ◌==◌, Bool, true, false, length}
use Rattle.rx_ring.specs.DmaArena.Block.{Block}
use Rattle.nic_device.specs.Link.{next_out_of}
use Rattle.nic_device.specs.State.{State}
use Rattle.nic_device.specs.NotesTrimming.{kept_len}
use Rattle.nic_device.specs.declared.event.Event.{Event}
use Rattle.nic_device.specs.declared.event.Event.TheVariants as event
use Rattle.nic_device.specs.declared.event.Reply.{Reply}
use Rattle.nic_device.specs.declared.event.Reply.TheVariants as reply

-- Whether a register access can have this reply.
abbrev pub may_read : Reply Block → Bool
may_read (reply.Word word) = true
may_read (reply.Stray word) = true
may_read other = false

abbrev pub may_write : Reply Block → Bool
may_write reply.Done = true
may_write (reply.Stray word) = true
may_write other = false

-- Whether lending a block can have this reply: the call succeeds, or a block with the same number is returned.
abbrev pub may_lend : ℕ → Reply Block → Bool
may_lend number reply.Done = true
may_lend number (reply.Twice block) = block.number == number
may_lend number other = false

-- Whether taking a block can have this reply. A returned block must have the requested number.
abbrev pub may_take : ℕ → Reply Block → Bool
may_take number (reply.Buf block) = block.number == number
may_take number reply.NotLent = true
may_take number other = false

abbrev pub may_peek : Reply Block → Bool
may_peek (reply.Bytes bytes) = true
may_peek reply.NotLent = true
may_peek reply.Misaligned = true
may_peek other = false

abbrev pub may_poke : Reply Block → Bool
may_poke reply.Done = true
may_poke reply.NotLent = true
may_poke reply.Misaligned = true
may_poke other = false

abbrev pub may_arrive : Reply Block → Bool
may_arrive reply.Done = true
may_arrive (reply.Dropped why) = true
may_arrive other = false

abbrev pub may_receive : Reply Block → Bool
may_receive reply.Idle = true
may_receive (reply.Dropped why) = true
may_receive (reply.Wrote queue slot end desc at len) = true
may_receive (reply.Fault queue fault) = true
may_receive other = false

-- Whether a transmit step can have this reply. A queue in the reply must be the step's queue.
abbrev pub may_transmit : ℕ → Reply Block → Bool
may_transmit own reply.NoQueue = true
may_transmit own reply.Idle = true
may_transmit own (reply.Advanced queue slot back) = queue == own
may_transmit own (reply.Sent queue len back) = queue == own
may_transmit own (reply.Fault queue fault) = queue == own
may_transmit own other = false

abbrev pub may_interrupt : Reply Block → Bool
may_interrupt reply.NoGroup = true
may_interrupt reply.Idle = true
may_interrupt (reply.Message group vector) = true
may_interrupt other = false

abbrev pub may_switch : Reply Block → Bool
may_switch reply.NoQueue = true
may_switch reply.Idle = true
may_switch reply.Done = true
may_switch other = false

abbrev pub may_link : Reply Block → Bool
may_link reply.Idle = true
may_link reply.Done = true
may_link other = false

abbrev pub may_answer_eeprom : Reply Block → Bool
may_answer_eeprom reply.Idle = true
may_answer_eeprom reply.Done = true
may_answer_eeprom other = false

abbrev pub may_collect : Reply Block → Bool
may_collect reply.Idle = true
may_collect (reply.Frame queue bytes) = true
may_collect other = false

-- Whether an event can have this reply, whatever the device's state.
abbrev pub may_answer : Event Block → Reply Block → Bool
may_answer (event.Read port address) r = may_read r
may_answer (event.Write port address word) r = may_write r
may_answer (event.Lend block) r = may_lend block.number r
may_answer (event.Take number) r = may_take number r
may_answer (event.Peek16 address) r = may_peek r
may_answer (event.Poke16 address bytes) r = may_poke r
may_answer (event.Arrive frame) r = may_arrive r
may_answer event.RxStep r = may_receive r
may_answer (event.TxStep queue) r = may_transmit queue r
may_answer (event.IntStep group) r = may_interrupt r
may_answer (event.QueueStep dir queue) r = may_switch r
may_answer event.EepromStep r = may_answer_eeprom r
may_answer (event.Link up) r = may_link r
may_answer event.Collect r = may_collect r

-- How many bytes the note of a reply copies: the stored bytes of a block, or the bytes of a frame.
abbrev pub note_length : Reply Block → ℕ
note_length (reply.Buf block) = kept_len block.bytes
note_length (reply.Twice block) = kept_len block.bytes
note_length (reply.Frame queue bytes) = length bytes
note_length other = 0

-- Whether a reply contains neither a block nor a frame.
abbrev pub is_plain : Reply Block → Bool
is_plain (reply.Buf block) = false
is_plain (reply.Twice block) = false
is_plain (reply.Frame queue bytes) = false
is_plain other = true

-- An upper bound on the bytes that the note of an event's reply copies. It is known before the event.
abbrev pub note_room : State → Event Block → ℕ
note_room s (event.Lend block) = 2048
note_room s (event.Take number) = 2048
note_room s event.Collect = next_out_of s.out
note_room s other = 0
