-- Laws of rings and descriptors. They refer to bits by the datasheet's numbers, not by the code's names.
use Rattle.std.specs.Prelude.{ℕ, ◌≡◌, ◌≢◌, ◌+◌, ◌*◌, ◌%◌, ◌^◌, ◌<◌, ◌≤◌, ◌⊎◌, ◌==◌, Bool, false, not, ◌||◌, IsTrue, IsFalse, [], ◌∷◌, length}
use Rattle.dma_ring.specs.Bits.{has_bit, field}
use Rattle.dma_ring.specs.Descriptor.{first_half, second_half, of_halves}
use Rattle.dma_ring.specs.Receive.{reported_of, written_back, is_done, ends_packet, bytes_in}
use Rattle.dma_ring.specs.Ring.{slots_of, is_outside, next_of, descriptor_address, available_slots}
use Rattle.dma_ring.specs.Transmit.{command_of, with_done}
use Rattle.dma_ring.specs.declared.receive.Packet.{Packet}
use Rattle.dma_ring.specs.declared.ring.Ring.{Ring}
use Rattle.dma_ring.specs.declared.transmit.Command.{Command}

-- Slots.

-- Suppose that a ring's head and tail are slots of the ring. If they are equal, the device owns no slot. Otherwise the
-- device owns the slot at the head, and all slots that it still owns after the head advances.
pub record AvailableSlotsFollowTheHead : Type 0 where
  pub empty : (r : Ring) → IsFalse (is_outside r) → r.head ≡ r.tail → available_slots r ≡ []
  pub more : (r : Ring) → IsFalse (is_outside r) → r.head ≢ r.tail →
      available_slots r ≡ r.head ∷ available_slots (record r { head = next_of (slots_of r) r.head })

-- Two slots of a ring shorter than 2^20 bytes don't overlap, even if addresses wrap.
abbrev pub SlotsAreApart : Type 0
SlotsAreApart =
    (r : Ring) (i j : ℕ) → r.length < 2 ^ 20 → i < slots_of r → j < slots_of r → i ≢ j
    → (descriptor_address r i + 16 ≤ descriptor_address r j) ⊎ (descriptor_address r j + 16 ≤ descriptor_address r i)

-- If slot 0 is at a multiple of 16, no slot crosses the end of a block. RDBAL and TDBAL ensure that slot 0 is at a
-- multiple of 128.
abbrev pub SlotsAreInBlocks : Type 0
SlotsAreInBlocks =
    (r : Ring) (slot : ℕ) → r.base % 16 ≡ 0
    → (descriptor_address r slot % 16 ≡ 0) × (descriptor_address r slot % 2048 + 16 ≤ 2048)

-- A ring of at most 128 slots that begins at the start of a block is within that block.
abbrev pub RingIsInBlock : Type 0
RingIsInBlock =
    (r : Ring) (block slot : ℕ) → block < 65536 → r.base ≡ 2048 * block → slot < 128
    → descriptor_address r slot ≡ 2048 * block + 16 * slot

-- Descriptors.

-- A descriptor made from two halves is 16 bytes long, and both halves are read back from it.
pub record HasHalves (low high : ℕ) : Type 0 where
  pub size : length (of_halves low high) ≡ 16
  pub first : low < 2 ^ 64 → first_half (of_halves low high) ≡ low
  pub second : high < 2 ^ 64 → second_half (of_halves low high) ≡ high

abbrev pub HalvesComeBack : Type 0
HalvesComeBack = (low high : ℕ) → HasHalves low high

-- The word reports each field of a packet in the field's own bits. The other bits are 0.
pub record TellsPacket (word : ℕ) (packet : Packet) : Type 0 where
  pub fits : word < 2 ^ 64
  pub rss : field 3 0 word ≡ packet.rss
  pub ipv4 : has_bit 4 word ≡ packet.ipv4
  pub ipv6 : has_bit 6 word ≡ packet.ipv6
  pub tcp : has_bit 8 word ≡ packet.tcp
  pub udp : has_bit 9 word ≡ packet.udp
  pub hash : field 63 32 word ≡ packet.hash
  pub rest : (has_bit 5 word ≡ false) × (has_bit 7 word ≡ false) × (field 31 10 word ≡ 0)

abbrev pub PacketIsReported : Type 0
PacketIsReported = (packet : Packet) → packet.rss < 2 ^ 4 → packet.hash < 2 ^ 32 →
    TellsPacket (reported_of packet) packet

-- The word reports that the descriptor is done, whether the packet ends, and the number of bytes. Bits 31:2 and 63:48
-- are 0.
pub record TellsPiece (word bytes : ℕ) (ends : Bool) : Type 0 where
  pub fits : word < 2 ^ 64
  pub done : IsTrue (is_done word)
  pub end : ends_packet word ≡ ends
  pub len : bytes_in word ≡ bytes
  pub rest : (field 31 2 word ≡ 0) × (field 63 48 word ≡ 0)

abbrev pub PieceIsReported : Type 0
PieceIsReported = (bytes : ℕ) (ends : Bool) → bytes < 2 ^ 16 → TellsPiece (written_back bytes ends) bytes ends

-- The command is read from the datasheet's bits: DTALEN, DTYP, EOP, RS, DEXT, and VLE, TSE and POPTS.
pub record AsksFor (word : ℕ) (command : Command) : Type 0 where
  pub len : command.len ≡ field 15 0 word
  pub kind : command.kind ≡ field 23 20 word
  pub end : command.end ≡ has_bit 24 word
  pub report : command.report ≡ has_bit 27 word
  pub extended : command.extended ≡ has_bit 29 word
  pub offload : command.offload ≡ (has_bit 30 word || has_bit 31 word || not (field 45 40 word == 0))

abbrev pub CommandIsAsked : Type 0
CommandIsAsked = (word : ℕ) → AsksFor word (command_of word)

-- Setting the done bit sets bit 32, DD, and changes no other bit.
pub record SetsDone (old new : ℕ) : Type 0 where
  pub fits : old < 2 ^ 64 → new < 2 ^ 64
  pub done : IsTrue (has_bit 32 new)
  pub others : (bit : ℕ) → bit ≢ 32 → has_bit bit new ≡ has_bit bit old

abbrev pub DoneIsSet : Type 0
DoneIsSet = (word : ℕ) → SetsDone word (with_done word)
