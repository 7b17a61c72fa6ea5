-- What a transmit descriptor requests, byte by byte, and which fault a transmit step has, in terms of register bits.
use Rattle.std.specs.Prelude.{ℕ, ◌≡◌, ◌≢◌, ◌<◌, ◌≤◌, ◌⊎◌, ◌+◌, ◌*◌, ◌/◌, ◌%◌, ◌^◌, ⊤, IsTrue, IsFalse, length, slice_index}
use Rattle.nic_device.specs.DmaRing.declared.fault.RingFault.TheVariants.{Outside, NotLent, Legacy, UnknownType, Offload, TooLong}
use Rattle.nic_device.specs.declared.event.Event.TheVariants as event
use Rattle.datasheet_laws.specs.FramePrelude.{Advanced, Block, Fault, IsSound, Registers, Reply, RingFault, Sent, State}
use Rattle.datasheet_laws.specs.FramePrelude.{Tdbah}
use Rattle.datasheet_laws.specs.FramePrelude.{Tdbal, Tdh, Tdlen, Tdt, Tdwbah, Tdwbal, is_lent, reply_to, staged_by, word_of}
use Rattle.datasheet_laws.specs.Arrival.{IsLimit}
use Rattle.datasheet_laws.specs.Bits.{bit, field}
use Rattle.datasheet_laws.specs.Transmitting.{head_descriptor}

-- The head and the tail of a transmit ring, TDH and TDT bits 15 to 0, are slots of the ring. The ring has a slot for
-- each 16 bytes of TDLEN bits 19 to 0.
pub record IsInside (r : Registers) (queue : ℕ) : Type 0 where
  pub head : field 15 0 (word_of r Tdh queue) < field 19 0 (word_of r Tdlen queue) / 16
  pub tail : field 15 0 (word_of r Tdt queue) < field 19 0 (word_of r Tdlen queue) / 16

-- The address of the descriptor at the head: 16 bytes for each slot after the base in TDBAH and TDBAL.
abbrev pub descriptor_address : Registers → ℕ → ℕ
descriptor_address r queue =
    (word_of r Tdbah queue * 2 ^ 32 + word_of r Tdbal queue + 16 * field 15 0 (word_of r Tdh queue)) % 2 ^ 64

-- Byte k of that descriptor.
abbrev pub byte : State → (queue k : ℕ) → ℕ
byte s queue k = slice_index (head_descriptor s queue) k

-- Bytes 0 to 7 contain the address of the buffer, the lowest first, and bytes 8 and 9 its length in bytes.
abbrev pub buffer_address : State → ℕ → ℕ
buffer_address s queue =
    byte s queue 0 + byte s queue 1 * 2 ^ 8 + byte s queue 2 * 2 ^ 16 + byte s queue 3 * 2 ^ 24
    + byte s queue 4 * 2 ^ 32 + byte s queue 5 * 2 ^ 40 + byte s queue 6 * 2 ^ 48 + byte s queue 7 * 2 ^ 56

abbrev pub buffer_length : State → ℕ → ℕ
buffer_length s queue = byte s queue 8 + 2 ^ 8 * byte s queue 9

-- Byte 10 has the type in bits 7 to 4. Byte 11 has EOP in bit 0, RS in bit 3, DEXT in bit 5, VLE in bit 6 and TSE in
-- bit 7. Byte 13 has POPTS in bits 5 to 0.
abbrev pub type_in : State → ℕ → ℕ
type_in s queue = field 7 4 (byte s queue 10)

abbrev pub end_bit : State → ℕ → ℕ
end_bit s queue = bit 0 (byte s queue 11)

abbrev pub report_bit : State → ℕ → ℕ
report_bit s queue = bit 3 (byte s queue 11)

abbrev pub extended_bit : State → ℕ → ℕ
extended_bit s queue = bit 5 (byte s queue 11)

-- VLE, TSE or POPTS isn't 0.
abbrev pub AsksOffload : State → ℕ → Type 0
AsksOffload s queue =
    (bit 6 (byte s queue 11) ≡ 1) ⊎ ((bit 7 (byte s queue 11) ≡ 1) ⊎ (field 5 0 (byte s queue 13) ≢ 0))

-- The descriptor is inside the ring and lent (`HasDescriptor`). It also has the advanced format and this type
-- (`IsAdvanced`). It is also of type 3 and requests no offload (`IsPlain`).
pub record HasDescriptor (s : State) (queue : ℕ) : Type 0 where
  pub inside : IsInside s.registers queue
  pub lent : IsTrue (is_lent s.memory (descriptor_address s.registers queue) 16)

pub record IsAdvanced (s : State) (queue kind : ℕ) : Type 0 where
  pub descriptor : HasDescriptor s queue
  pub extended : extended_bit s queue ≡ 1
  pub type : type_in s queue ≡ kind

pub record IsPlain (s : State) (queue : ℕ) : Type 0 where
  pub advanced : IsAdvanced s queue 3
  pub none : ¬ AsksOffload s queue

-- The staged bytes and the buffer's bytes together exceed the limit (`IsTooLong`), or don't exceed it (`IsShort`).
pub record IsTooLong (s : State) (queue : ℕ) : Type 0 where
  pub limit : ℕ
  pub is : IsLimit s.registers limit
  pub above : limit < length (staged_by s queue) + buffer_length s queue

pub record IsShort (s : State) (queue : ℕ) : Type 0 where
  pub limit : ℕ
  pub is : IsLimit s.registers limit
  pub within : length (staged_by s queue) + buffer_length s queue ≤ limit

-- The bytes of the buffer are lent too.
pub record HasBuffer (s : State) (queue : ℕ) : Type 0 where
  pub plain : IsPlain s queue
  pub short : IsShort s queue
  pub lent : IsTrue (is_lent s.memory (buffer_address s queue) (buffer_length s queue))

-- Where the report goes, and in how many bytes: if TDWBAL bit 0 is 1, 4 bytes at the address in TDWBAH and TDWBAL bits
-- 31 to 2; otherwise in the descriptor.
abbrev pub IsReportedAt : Registers → (queue address bytes : ℕ) → Type 0
IsReportedAt r queue address bytes =
    ((bit 0 (word_of r Tdwbal queue) ≡ 1)
    × (address ≡ word_of r Tdwbah queue * 2 ^ 32 + 4 * field 31 2 (word_of r Tdwbal queue)) × (bytes ≡ 4))
    ⊎ ((bit 0 (word_of r Tdwbal queue) ≡ 0) × (address ≡ descriptor_address r queue) × (bytes ≡ 16))

-- What isn't lent: the descriptor, the buffer, or the report's destination, which is required only if RS is 1.
pub record LacksDescriptor (s : State) (queue address : ℕ) : Type 0 where
  pub inside : IsInside s.registers queue
  pub reported : address ≡ descriptor_address s.registers queue
  pub lacks : IsFalse (is_lent s.memory address 16)

pub record LacksBuffer (s : State) (queue address : ℕ) : Type 0 where
  pub plain : IsPlain s queue
  pub short : IsShort s queue
  pub reported : address ≡ buffer_address s queue
  pub lacks : IsFalse (is_lent s.memory address (buffer_length s queue))

pub record LacksReport (s : State) (queue address : ℕ) : Type 0 where
  pub buffer : HasBuffer s queue
  pub asked : report_bit s queue ≡ 1
  pub bytes : ℕ
  pub reported : IsReportedAt s.registers queue address bytes
  pub lacks : IsFalse (is_lent s.memory address bytes)

-- Each fault, if no earlier one applies.
abbrev pub HasFault : State → ℕ → RingFault → Type 0
HasFault s queue Outside = ¬ IsInside s.registers queue
HasFault s queue Legacy = HasDescriptor s queue × (extended_bit s queue ≡ 0)
HasFault s queue UnknownType =
    HasDescriptor s queue × (extended_bit s queue ≡ 1) × (type_in s queue ≢ 2) × (type_in s queue ≢ 3)
HasFault s queue Offload = IsAdvanced s queue 3 × AsksOffload s queue
HasFault s queue TooLong = IsPlain s queue × IsTooLong s queue
HasFault s queue (NotLent address) =
    LacksDescriptor s queue address ⊎ (LacksBuffer s queue address ⊎ LacksReport s queue address)
HasFault s queue other = ⊥

-- No report is requested (RS is 0), or its bytes are lent.
pub record CanReport (s : State) (queue : ℕ) : Type 0 where
  pub address : ℕ
  pub bytes : ℕ
  pub reported : IsReportedAt s.registers queue address bytes
  pub lent : (report_bit s queue ≡ 0) ⊎ IsTrue (is_lent s.memory address bytes)

-- A data descriptor can be done: its bytes are lent, and it can be reported. `eop` is its EOP bit.
pub record CanBeDone (s : State) (queue eop : ℕ) : Type 0 where
  pub buffer : HasBuffer s queue
  pub report : CanReport s queue
  pub end : end_bit s queue ≡ eop

-- A descriptor that a step processes is done if it can be. A descriptor of type 2 has no further conditions; a
-- descriptor of type 3 sends a frame if EOP is 1. Otherwise it has the first fault that applies.
abbrev pub DescriptorIsSo : State → ℕ → Reply Block → Type 0
DescriptorIsSo s own (Advanced queue slot back) = IsAdvanced s own 2 ⊎ CanBeDone s own 0
DescriptorIsSo s own (Sent queue len back) = CanBeDone s own 1
DescriptorIsSo s own (Fault queue fault) = HasFault s own fault
DescriptorIsSo s own other = ⊤

abbrev pub DescriptorsHaveTheirFaults : Type 0
DescriptorsHaveTheirFaults =
    (s : State) → IsSound s → (queue : ℕ) → DescriptorIsSo s queue (reply_to s (event.TxStep queue))
