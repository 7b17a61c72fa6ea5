-- What the laws promise about all registers together, whatever happened before. `view` is a mask of the bits that an
-- address shows.
use Rattle.std.specs.Prelude.{ℕ, ◌+◌, ◌/◌, ◌%◌, ◌^◌, ◌≡◌, ◌≢◌, ◌<◌, ◌⊎◌, false, IsTrue, IsFalse, List, [], ◌∷◌, All, None, bit_and}
use Rattle.register_file.specs.RegTable.declared.bank.Bank.TheVariants as bank
use Rattle.register_file.specs.RegTable.declared.kind.Kind.TheVariants as kind
use Rattle.register_file.specs.RegTable.declared.rows.RowId.TheVariants.{Ctrl, Status, Links, Eec, Eerd, Rxctrl, Dmatxctl, Hlreg0, Maxfrs, Gpie, Srrctl, Rxdctl, Txdctl}
use Rattle.register_file.specs.Counters.{counted, counted_wrapping, mapping_row, counter_of}
use Rattle.register_file.specs.Eeprom.{eeprom_index, eeprom_asked, eeprom_answered}
use Rattle.register_file.specs.Groups.{cause_row, mask_row, auto_clear_row, auto_mask_row, index_of, reported_by, interrupts_of, with_interrupts, clears_others, auto_masks, vector_row, vector_entry, causes_raised, queue_raised, message_made}
use Rattle.register_file.specs.Queue.{ring_of, is_on, base_low_row, base_high_row, length_row, head_row, enable_row, with_head, switched, shut}
use Rattle.register_file.specs.Settings.{is_stopped, can_receive, can_transmit, frame_limit, pads, drops}
use Rattle.register_file.specs.declared.owner.Owner.TheVariants as owner
use Rattle.register_file.specs.declared.surroundings.Surroundings.{Surroundings}
use Rattle.register_laws.specs.Prelude.{Dir, Group, Interrupts, IsConsistent, Owner, Place, Registers, RowId, Rx, Tx}
use Rattle.register_laws.specs.Prelude.{after_read, bumped, group_bits, has_bit, is_owner, is_wanted, merged, owner_of}
use Rattle.register_laws.specs.Prelude.{place, read_word, reset_registers, row_of, with_word, word_at, word_of, written}
use Rattle.register_laws.specs.Footprint.{Footprint, LacksWord, ChangesWithin, Covers, Misses, the_word, the_enable, of_owner, of_side, of_group, pending, pending_of, any_pending, is_own, of_read, of_write}
use Rattle.register_laws.specs.Sides.{receive_queue_of, transmit_queue_of, with_row, receive_queue_by, transmit_queue_by}
use Rattle.register_laws.specs.Sound.{AreSound}
pub use Rattle.register_laws.specs.Sound.{HasShape}

-- The registers after a write to a place.
abbrev pub after_write : Registers → Place → ℕ → ℕ → Registers
after_write r p view word = written (row_of p.row).kind r p view word

-- After a reset, each place contains its row's reset value. No side of a queue is enabled or has an enable request, and
-- no bit is reported.
abbrev pub ResetGivesResetValues : Type 0
ResetGivesResetValues =
    (p : Place) → p.index < (row_of p.row).count → word_at reset_registers.words p ≡ (row_of p.row).reset

abbrev pub ResetSwitchesOff : Type 0
ResetSwitchesOff =
    (dir : Dir) (queue : ℕ) → queue < 128 →
    IsFalse (is_on reset_registers dir queue) × IsFalse (is_wanted reset_registers dir queue)

abbrev pub ResetTellsNothing : Type 0
ResetTellsNothing = (g : Group) → index_of g < 64 → reported_by reset_registers g ≡ 0

-- After a word is stored at a place, the place contains this word, and everything else is unchanged.
abbrev pub PutWordIsThere : Type 0
PutWordIsThere =
    (r : Registers) → HasShape r → (p : Place) → p.index < (row_of p.row).count → (word : ℕ) →
    word_of (with_word r p.row p.index word) p.row p.index ≡ word

abbrev pub PutWordIsAlone : Type 0
PutWordIsAlone = (r : Registers) (p : Place) (word : ℕ) → ChangesWithin (the_word p) r (with_word r p.row p.index word)

-- The bits of an interrupt group are the table's masks of its cause, mask, auto-clear and auto-mask registers.
abbrev pub GroupBitsAreMasks : Type 0
GroupBitsAreMasks =
    (g : Group) →
    ((row_of (cause_row g)).mask ≡ group_bits g) × ((row_of (mask_row g)).mask ≡ group_bits g) ×
    ((row_of (auto_clear_row g)).mask ≡ group_bits g) × ((row_of (auto_mask_row g)).mask ≡ group_bits g)

-- After a write to a plain read/write register, a read returns the written bits that the register's mask has and the
-- address shows. All other bits are unchanged.
abbrev pub StoredWordReadsBack : Type 0
StoredWordReadsBack =
    (r : Registers) → HasShape r → (p : Place) → p.index < (row_of p.row).count → (row_of p.row).kind ≡ kind.Rw →
    (view word : ℕ) (around : Surroundings) →
    read_word (row_of p.row).kind (after_write r p view word) around p
    ≡ merged (bit_and (row_of p.row).mask view) (word_at r.words p) word

-- After a head is moved, the side's ring has that head, and the rest of the side is unchanged.
abbrev pub HeadMovesReceive : Type 0
HeadMovesReceive =
    (r : Registers) → HasShape r → (queue head : ℕ) → queue < 128 → head < 65536 →
    receive_queue_of (with_head r Rx queue head) queue
    ≡ record (receive_queue_of r queue) { ring = record (ring_of r Rx queue) { head = head } }

abbrev pub HeadMovesTransmit : Type 0
HeadMovesTransmit =
    (r : Registers) → HasShape r → (queue head : ℕ) → queue < 128 → head < 65536 →
    transmit_queue_of (with_head r Tx queue head) queue
    ≡ record (transmit_queue_of r queue) { ring = record (ring_of r Tx queue) { head = head } }

-- After a switch, a side is enabled or disabled as requested, and the rest of the side is unchanged.
abbrev pub SwitchObeysReceive : Type 0
SwitchObeysReceive =
    (r : Registers) → HasShape r → (queue : ℕ) → queue < 128 →
    receive_queue_of (switched r Rx queue) queue
    ≡ record (receive_queue_of r queue) { on = (receive_queue_of r queue).wanted }

abbrev pub SwitchObeysTransmit : Type 0
SwitchObeysTransmit =
    (r : Registers) → HasShape r → (queue : ℕ) → queue < 128 →
    transmit_queue_of (switched r Tx queue) queue
    ≡ record (transmit_queue_of r queue) { on = (transmit_queue_of r queue).wanted }

-- Switching a side that is already in its requested state changes nothing.
abbrev pub SwitchedSideStays : Type 0
SwitchedSideStays =
    (r : Registers) (dir : Dir) (queue : ℕ) → is_on r dir queue ≡ is_wanted r dir queue → switched r dir queue ≡ r

-- When a side's enable word is read, bit 25 shows whether the side is enabled.
abbrev pub EnableReadTellsOn : Type 0
EnableReadTellsOn =
    (r : Registers) (dir : Dir) (queue : ℕ) (around : Surroundings) →
    has_bit 25 (read_word (row_of (enable_row dir)).kind r around (place (enable_row dir) queue)) ≡ is_on r dir queue

-- After a side is shut, it is disabled and has no enable request, and the rest of the side is unchanged.
abbrev pub ShutIsOffReceive : Type 0
ShutIsOffReceive =
    (r : Registers) → HasShape r → (queue : ℕ) → queue < 128 →
    receive_queue_of (shut r Rx queue) queue ≡ record (receive_queue_of r queue) { on = false; wanted = false }

abbrev pub ShutIsOffTransmit : Type 0
ShutIsOffTransmit =
    (r : Registers) → HasShape r → (queue : ℕ) → queue < 128 →
    transmit_queue_of (shut r Tx queue) queue ≡ record (transmit_queue_of r queue) { on = false; wanted = false }

-- The rows of a side's ring that no write changes while the side is enabled.
abbrev pub held_rows : Dir → List RowId
held_rows dir = base_low_row dir ∷ base_high_row dir ∷ length_row dir ∷ head_row dir ∷ []

abbrev pub RingIsHeldWhileOn : Type 0
RingIsHeldWhileOn =
    (r : Registers) (dir : Dir) (queue view word : ℕ) → IsTrue (is_on r dir queue) →
    All (λ row. after_write r (place row queue) view word ≡ r) (held_rows dir)

-- A write to a side's enable word changes only the side's enable request, to bit 25 of the written word. The side stays
-- enabled or disabled as it was, and its ring is unchanged.
abbrev pub EnableWriteAsksReceive : Type 0
EnableWriteAsksReceive =
    (r : Registers) → HasShape r → (queue view word : ℕ) → queue < 128 →
    receive_queue_of (after_write r (place Rxdctl queue) view word) queue
    ≡ record (receive_queue_of r queue) { wanted = has_bit 25 word }

abbrev pub EnableWriteAsksTransmit : Type 0
EnableWriteAsksTransmit =
    (r : Registers) → HasShape r → (queue view word : ℕ) → queue < 128 →
    transmit_queue_of (after_write r (place Txdctl queue) view word) queue
    ≡ record (transmit_queue_of r queue) { wanted = has_bit 25 word }

-- A row of a side accepts a write: the row is plain, or the row is held and the side is disabled.
abbrev pub IsOpen : Registers → Dir → ℕ → RowId → Type 0
IsOpen r dir queue row =
    ((row_of row).kind ≡ kind.Rw) ⊎ (((row_of row).kind ≡ kind.Held) × IsFalse (is_on r dir queue))

-- The word at a place after a write that the place accepts.
abbrev pub word_after : Registers → Place → ℕ → ℕ → ℕ
word_after r p view word = merged (bit_and (row_of p.row).mask view) (word_at r.words p) word

-- If a row accepts a write, the written word becomes part of the side: its ring's base, length, head or tail, its
-- control word, or its write-back address.
abbrev pub WrittenReceiveIsTheSides : Type 0
WrittenReceiveIsTheSides =
    (r : Registers) → HasShape r → (row : RowId) (queue : ℕ) → (row_of row).bank ≡ bank.Receive →
    queue < (row_of row).count → IsOpen r Rx queue row → (view word : ℕ) →
    receive_queue_of (after_write r (place row queue) view word) queue
    ≡ receive_queue_by (with_row (λ own. word_of r own queue) row (word_after r (place row queue) view word))
    (is_wanted r Rx queue)

abbrev pub WrittenTransmitIsTheSides : Type 0
WrittenTransmitIsTheSides =
    (r : Registers) → HasShape r → (row : RowId) (queue : ℕ) → (row_of row).bank ≡ bank.Transmit →
    queue < (row_of row).count → IsOpen r Tx queue row → (view word : ℕ) →
    transmit_queue_of (after_write r (place row queue) view word) queue
    ≡ transmit_queue_by (with_row (λ own. word_of r own queue) row (word_after r (place row queue) view word))
    (is_wanted r Tx queue)

-- Each count adds one to a counter, up to the largest word. A read returns the count and sets the counter to 0.
pub record CountsAndClears (r : Registers) (p : Place) : Type 0 where
  pub counts : (around : Surroundings)
      → read_word kind.Rc (counted r p.row p.index) around p ≡ bumped (read_word kind.Rc r around p)
  pub clears : (around : Surroundings) → read_word kind.Rc (after_read kind.Rc r p) around p ≡ 0

abbrev pub CountersCount : Type 0
CountersCount =
    (r : Registers) → HasShape r → (p : Place) → p.index < (row_of p.row).count → (row_of p.row).kind ≡ kind.Rc →
    CountsAndClears r p

-- Each count adds one to a read-only counter, and the largest word is followed by 0. A read returns the count. Reads
-- and writes leave the counter unchanged.
pub record GoesRound (r : Registers) (p : Place) : Type 0 where
  pub counts : (around : Surroundings)
      → read_word kind.Ro (counted_wrapping r p.row p.index) around p ≡ (read_word kind.Ro r around p + 1) % 2 ^ 32
  pub stays : after_read kind.Ro r p ≡ r
  pub kept : (view word : ℕ) → written kind.Ro r p view word ≡ r

abbrev pub ReadOnlyCountersGoRound : Type 0
ReadOnlyCountersGoRound =
    (r : Registers) → HasShape r → (p : Place) → p.index < (row_of p.row).count → (row_of p.row).kind ≡ kind.Ro →
    GoesRound r p

-- Only STATUS, LINKS and EEC are calculated rows.
abbrev pub CalculatedRowsHaveFormulas : Type 0
CalculatedRowsHaveFormulas =
    (row : RowId) → (row_of row).kind ≡ kind.Calc → (row ≡ Status) ⊎ (row ≡ Links) ⊎ (row ≡ Eec)

-- After an EEPROM reply, EERD contains the word of the reply, with the requested index and with DONE set. Afterwards,
-- no word is requested.
pub record IsAnswered (r : Registers) (asked answer : ℕ) : Type 0 where
  pub word : word_of r Eerd 0 / 2 ^ 16 ≡ answer
  pub index : eeprom_index r ≡ asked
  pub done : IsTrue (has_bit 1 (word_of r Eerd 0))
  pub asks_no_more : eeprom_asked r ≡ None

abbrev pub EepromAnswerIsRead : Type 0
EepromAnswerIsRead =
    (r : Registers) → HasShape r → (word : ℕ) → word < 2 ^ 16 →
    IsAnswered (eeprom_answered r word) (eeprom_index r) word

-- Suppose that a group is below 64, and its new interrupts are consistent 32-bit words. After these interrupts are
-- stored, the group's registers contain their causes, masks and reported bits. The auto-clear and the auto-mask are
-- unchanged.
abbrev pub InterruptsStand : Type 0
InterruptsStand =
    (r : Registers) → HasShape r → (s : Interrupts) → IsConsistent s → index_of s.group < 64 →
    s.causes < 2 ^ 32 → s.enabled < 2 ^ 32 → s.reported < 2 ^ 32 →
    interrupts_of (with_interrupts r s) s.group
    ≡ record s {
      auto_clear = (interrupts_of r s.group).auto_clear;
      auto_mask = (interrupts_of r s.group).auto_mask;
    }

-- An operation changes only what is in its footprint.
abbrev pub ReadStaysWithin : Type 0
ReadStaysWithin = (r : Registers) (p : Place) → ChangesWithin (of_read p) r (after_read (row_of p.row).kind r p)

abbrev pub WriteStaysWithin : Type 0
WriteStaysWithin =
    (r : Registers) (p : Place) (view word : ℕ) → ChangesWithin (of_write p) r (after_write r p view word)

abbrev pub CountStaysWithin : Type 0
CountStaysWithin =
    (r : Registers) (row : RowId) (index : ℕ) → ChangesWithin (the_word (place row index)) r (counted r row index)

abbrev pub CountWrappingStaysWithin : Type 0
CountWrappingStaysWithin =
    (r : Registers) (row : RowId) (index : ℕ) →
    ChangesWithin (the_word (place row index)) r (counted_wrapping r row index)

abbrev pub AnswerStaysWithin : Type 0
AnswerStaysWithin = (r : Registers) (word : ℕ) → ChangesWithin (the_word (place Eerd 0)) r (eeprom_answered r word)

abbrev pub RaiseStaysWithin : Type 0
RaiseStaysWithin = (r : Registers) (g : Group) (bits : ℕ) → ChangesWithin (pending g) r (causes_raised r g bits)

abbrev pub QueueRaiseStaysWithin : Type 0
QueueRaiseStaysWithin =
    (r : Registers) (g : Group) (dir : Dir) (queue : ℕ) → ChangesWithin (pending g) r (queue_raised r g dir queue)

abbrev pub MessageStaysWithin : Type 0
MessageStaysWithin = (r : Registers) (g : Group) → ChangesWithin (pending g) r (message_made r g)

abbrev pub HeadStaysWithin : Type 0
HeadStaysWithin =
    (r : Registers) (dir : Dir) (queue head : ℕ) →
    ChangesWithin (the_word (place (head_row dir) queue)) r (with_head r dir queue head)

abbrev pub SwitchStaysWithin : Type 0
SwitchStaysWithin =
    (r : Registers) (dir : Dir) (queue : ℕ) →
    ChangesWithin (the_word (place (enable_row dir) queue)) r (switched r dir queue)

abbrev pub ShutStaysWithin : Type 0
ShutStaysWithin =
    (r : Registers) (dir : Dir) (queue : ℕ) →
    ChangesWithin (the_enable (place (enable_row dir) queue)) r (shut r dir queue)

-- What a read of a place may change belongs to the place's owner.
abbrev pub ReadStaysWithOwner : Type 0
ReadStaysWithOwner = (p : Place) → Covers (of_owner (owner_of p)) (of_read p)

-- If a register affects only its owner, what a write to the register's place may change belongs to the place's owner.
abbrev pub WriteStaysWithOwner : Type 0
WriteStaysWithOwner =
    (p : Place) → IsTrue (is_own (row_of p.row).kind) → Covers (of_owner (owner_of p)) (of_write p)

-- The footprints of two different owners have nothing in common.
abbrev pub OwnersAreApart : Type 0
OwnersAreApart = (o other : Owner) → IsFalse (is_owner o other) → Misses (of_owner o) (of_owner other)

-- The footprint of a word contains no bit at any other place.
abbrev pub WordIsOnePlace : Type 0
WordIsOnePlace = (p q : Place) → q ≢ p → LacksWord (the_word p) q

-- The pending state of a group consists of causes, masks and reported bits.
abbrev pub PendingIsPending : Type 0
PendingIsPending = (g : Group) → Covers any_pending (pending g)

-- For two different owners, the test for equal owners returns false.
abbrev pub OwnersDiffer : Type 0
OwnersDiffer = (o other : Owner) → o ≢ other → IsFalse (is_owner o other)

-- The clear-on-read counters have their own owner.
abbrev pub CountersAreTheirOwn : Type 0
CountersAreTheirOwn = (p : Place) → (row_of p.row).kind ≡ kind.Rc → owner_of p ≡ owner.Counters

-- The pending state of an owner contains nothing that belongs to a side of a queue.
abbrev pub PendingMissesSides : Type 0
PendingMissesSides = (o : Owner) (dir : Dir) (queue : ℕ) → Misses (pending_of o) (of_side dir queue)

-- Nothing that a read may change belongs to a side of a queue.
abbrev pub ReadMissesSides : Type 0
ReadMissesSides = (p : Place) (dir : Dir) (queue : ℕ) → Misses (of_read p) (of_side dir queue)

-- A receive side is unchanged if the footprint contains no part of it.
abbrev pub MissedReceiveStands : Type 0
MissedReceiveStands =
    (f : Footprint) (old new : Registers) (queue : ℕ) → Misses f (of_side Rx queue) → ChangesWithin f old new →
    receive_queue_of new queue ≡ receive_queue_of old queue

-- A transmit side is unchanged if the footprint contains no part of it.
abbrev pub MissedTransmitStands : Type 0
MissedTransmitStands =
    (f : Footprint) (old new : Registers) (queue : ℕ) → Misses f (of_side Tx queue) → ChangesWithin f old new →
    transmit_queue_of new queue ≡ transmit_queue_of old queue

-- A group's interrupts are unchanged if the footprint contains no part of them.
abbrev pub MissedInterruptsStand : Type 0
MissedInterruptsStand =
    (f : Footprint) (old new : Registers) (g : Group) → Misses f (of_group g) → ChangesWithin f old new →
    interrupts_of new g ≡ interrupts_of old g

-- Each setting in single words is unchanged if the footprint contains no bit of its words.
pub record SettingsStand (f : Footprint) (old new : Registers) : Type 0 where
  pub stopped : LacksWord f (place Ctrl 0) → is_stopped new ≡ is_stopped old
  pub can_receive : LacksWord f (place Rxctrl 0) → can_receive new ≡ can_receive old
  pub can_transmit : LacksWord f (place Dmatxctl 0) → can_transmit new ≡ can_transmit old
  pub limit : LacksWord f (place Hlreg0 0) → LacksWord f (place Maxfrs 0)
      → frame_limit new ≡ frame_limit old
  pub padding : LacksWord f (place Hlreg0 0) → pads new ≡ pads old
  pub dropping : (queue : ℕ) → LacksWord f (place Srrctl queue) → drops new queue ≡ drops old queue
  pub clearing : LacksWord f (place Gpie 0) → clears_others new ≡ clears_others old
  pub masking : LacksWord f (place Gpie 0) → (g : Group) → auto_masks new g ≡ auto_masks old g
  pub vector : (g : Group) (dir : Dir) (queue : ℕ) → LacksWord f (place (vector_row g) (queue / 2))
      → vector_entry new g dir queue ≡ vector_entry old g dir queue
  pub counter : (dir : Dir) (queue : ℕ) → LacksWord f (place (mapping_row dir) (queue / 4))
      → counter_of new dir queue ≡ counter_of old dir queue

-- After a change within a footprint, each setting in single words is unchanged if the footprint contains no bit of its
-- words.
abbrev pub MissedSettingsStand : Type 0
MissedSettingsStand = (f : Footprint) (old new : Registers) → ChangesWithin f old new → SettingsStand f old new

-- Registers are sound after a reset and stay sound through every change.
abbrev pub ResetIsSound : Type 0
ResetIsSound = AreSound reset_registers

abbrev pub ReadKeepsSound : Type 0
ReadKeepsSound = (r : Registers) → AreSound r → (p : Place) → AreSound (after_read (row_of p.row).kind r p)

abbrev pub WriteKeepsSound : Type 0
WriteKeepsSound =
    (r : Registers) → AreSound r → (p : Place) (view word : ℕ) → AreSound (after_write r p view word)

abbrev pub CountKeepsSound : Type 0
CountKeepsSound =
    (r : Registers) → AreSound r → (row : RowId) (index : ℕ) → (row_of row).kind ≡ kind.Rc →
    AreSound (counted r row index)

abbrev pub CountWrappingKeepsSound : Type 0
CountWrappingKeepsSound =
    (r : Registers) → AreSound r → (row : RowId) (index : ℕ) → (row_of row).kind ≡ kind.Ro →
    AreSound (counted_wrapping r row index)

abbrev pub AnswerKeepsSound : Type 0
AnswerKeepsSound = (r : Registers) → AreSound r → (word : ℕ) → word < 2 ^ 16 → AreSound (eeprom_answered r word)

abbrev pub RaiseKeepsSound : Type 0
RaiseKeepsSound = (r : Registers) → AreSound r → (g : Group) (bits : ℕ) → AreSound (causes_raised r g bits)

abbrev pub QueueRaiseKeepsSound : Type 0
QueueRaiseKeepsSound =
    (r : Registers) → AreSound r → (g : Group) (dir : Dir) (queue : ℕ) → AreSound (queue_raised r g dir queue)

abbrev pub MessageKeepsSound : Type 0
MessageKeepsSound = (r : Registers) → AreSound r → (g : Group) → AreSound (message_made r g)

abbrev pub HeadKeepsSound : Type 0
HeadKeepsSound =
    (r : Registers) → AreSound r → (dir : Dir) (queue head : ℕ) → head < 2 ^ 16 → AreSound (with_head r dir queue head)

abbrev pub SwitchKeepsSound : Type 0
SwitchKeepsSound = (r : Registers) → AreSound r → (dir : Dir) (queue : ℕ) → AreSound (switched r dir queue)

abbrev pub ShutKeepsSound : Type 0
ShutKeepsSound = (r : Registers) → AreSound r → (dir : Dir) (queue : ℕ) → AreSound (shut r dir queue)
