-- Where the head of a ring advances to, by the words of its registers.
use Rattle.std.specs.Prelude.{ℕ, ◌≡◌, ◌+◌, ◌/◌, ◌%◌, ◌==◌, Bool, Option, if◌then◌else◌}
use Rattle.nic_device.specs.RegTable.declared.rows.RowId.TheVariants.{Rdlen, Rdh, Tdlen, Tdh}
use Rattle.nic_device.specs.declared.event.Event.TheVariants as event
use Rattle.datasheet_laws.specs.Prelude.{Advanced, IsSound, Registers, Sent, State, Wrote, after, reply_to, word_of}

-- The slot after a slot, or slot 0 after the last. A ring has one slot for each 16 bytes of its length, whose bits 19
-- to 0 count.
abbrev pub slot_after : (length slot : ℕ) → ℕ
slot_after length slot = if slot + 1 == length % 1048576 / 16 then 0 else slot + 1

-- RDH and TDH of a queue, in bits 15 to 0.
abbrev pub receive_head : Registers → ℕ → ℕ
receive_head r queue = word_of r Rdh queue % 65536

abbrev pub transmit_head : Registers → ℕ → ℕ
transmit_head r queue = word_of r Tdh queue % 65536

-- RDH advances when a slot is written, and TDH when a descriptor is done, with or without a sent frame.
pub record MovesHeads (s : State) : Type 0 where
  pub written :
      (queue slot : ℕ) (end : Bool) (desc at len : ℕ) → reply_to s event.RxStep ≡ Wrote queue slot end desc at len
      → receive_head (after s event.RxStep).registers queue
      ≡ slot_after (word_of s.registers Rdlen queue) (receive_head s.registers queue)
  pub advanced :
      (queue own slot : ℕ) (back : Option ℕ) → reply_to s (event.TxStep queue) ≡ Advanced own slot back
      → transmit_head (after s (event.TxStep queue)).registers queue
      ≡ slot_after (word_of s.registers Tdlen queue) (transmit_head s.registers queue)
  pub sent :
      (queue own len : ℕ) (back : Option ℕ) → reply_to s (event.TxStep queue) ≡ Sent own len back
      → transmit_head (after s (event.TxStep queue)).registers queue
      ≡ slot_after (word_of s.registers Tdlen queue) (transmit_head s.registers queue)

abbrev pub HeadsMoveOn : Type 0
HeadsMoveOn = (s : State) → IsSound s → MovesHeads s
