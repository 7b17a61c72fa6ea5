-- The 16 bytes that a receive step writes into a descriptor, and the bytes that it writes into the buffer.
use Rattle.std.specs.Prelude.{ℕ, ◌≡◌, ◌+◌, ◌*◌, ◌/◌, ◌^◌, Bool, List, [], ◌∷◌, take, drop, slice_index, if◌then◌else◌}
use Rattle.nic_device.specs.declared.event.Event.TheVariants as event
use Rattle.datasheet_laws.specs.FramePrelude.{AreApart, Bytes, IsSound, State, Waiting, Wrote, after, read_at, reply_to}
use Rattle.datasheet_laws.specs.Bits.{field}
use Rattle.datasheet_laws.specs.Packets.{is_ipv4, is_ipv6, is_tcp, is_udp}

-- 1 if a test holds, otherwise 0; and byte k of a number, with byte 0 the lowest.
abbrev pub one_if : Bool → ℕ
one_if b = if b then 1 else 0

abbrev pub byte : (k number : ℕ) → ℕ
byte k number = field (8 * k + 7) (8 * k) number

-- Bytes 0 to 7: the RSS type in bits 3 to 0 of byte 0, IPv4 in bit 4 and IPv6 in bit 6; TCP in bit 0 of byte 1 and UDP
-- in bit 1; the hash in bytes 4 to 7, the lowest first. Bytes 8 to 15: DD, always 1, in bit 0 of byte 8, EOP in bit 1;
-- the number of bytes in bytes 12 and 13, the lower first. All other bits are 0.
abbrev pub written_bytes : Waiting → (end : Bool) (len : ℕ) → List ℕ
written_bytes w end len =
    (w.rss + 16 * one_if (is_ipv4 w.frame) + 64 * one_if (is_ipv6 w.frame))
    ∷ (one_if (is_tcp w.frame) + 2 * one_if (is_udp w.frame)) ∷ 0 ∷ 0
    ∷ byte 0 w.hash ∷ byte 1 w.hash ∷ byte 2 w.hash ∷ byte 3 w.hash
    ∷ (1 + 2 * one_if end) ∷ 0 ∷ 0 ∷ 0 ∷ byte 0 len ∷ byte 1 len ∷ 0 ∷ 0 ∷ []

-- Bytes 0 to 7 of the descriptor before the step: the address of the buffer, the lowest byte first.
abbrev pub address_in : List ℕ → ℕ
address_in d =
    slice_index d 0 + slice_index d 1 * 2 ^ 8 + slice_index d 2 * 2 ^ 16 + slice_index d 3 * 2 ^ 24
    + slice_index d 4 * 2 ^ 32 + slice_index d 5 * 2 ^ 40 + slice_index d 6 * 2 ^ 48 + slice_index d 7 * 2 ^ 56

-- A peek at the descriptor shows these bytes. The buffer, at its address with bit 0 ignored, contains the next bytes of
-- the frame if it shares no byte with the descriptor.
pub record ShowsPiece (s : State) (w : Waiting) (end : Bool) (desc at len : ℕ) (new : State) : Type 0 where
  pub descriptor : reply_to new (event.Peek16 desc) ≡ Bytes (written_bytes w end len)
  pub buffer : at ≡ 2 * (address_in (read_at s.memory desc 16) / 2)
  pub bytes : AreApart at len desc 16 → read_at new.memory at len ≡ take len (drop w.offset w.frame)

abbrev pub DescriptorsAreWrittenBack : Type 0
DescriptorsAreWrittenBack =
    (s : State) → IsSound s → (w : Waiting) (others : List Waiting) → s.waiting ≡ w ∷ others →
    (queue slot : ℕ) (end : Bool) (desc at len : ℕ) → reply_to s event.RxStep ≡ Wrote queue slot end desc at len →
    ShowsPiece s w end desc at len (after s event.RxStep)
