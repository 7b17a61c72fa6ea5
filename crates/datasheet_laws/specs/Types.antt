-- The RSS type and the hash of a frame, by its bytes, MRQC, RXCSUM and the key.
use Rattle.std.specs.Prelude.{ℕ, ◌≡◌, ◌==◌, ◌&&◌, ◌||◌, Bool, not, List, [], ◌∷◌, ◌++◌, if◌then◌else◌}
use Rattle.nic_device.specs.declared.event.Event.TheVariants as event
use Rattle.datasheet_laws.specs.FramePrelude.{Done, Mrqc, Registers, Rssrk, Rxcsum, State, Waiting, after, bytes_of_registers}
use Rattle.datasheet_laws.specs.FramePrelude.{reply_to, row_words, toeplitz_hash, word_of}
use Rattle.datasheet_laws.specs.Bits.{bit, field}
use Rattle.datasheet_laws.specs.Packets.{is_ipv4, is_ipv6, over_ipv4, over_ipv6, ipv4_addresses, ipv4_ports, ipv6_addresses}
use Rattle.datasheet_laws.specs.Packets.{ipv6_ports}

-- Whether the code in MRQC bits 3 to 0 enables hashing (`hashes`), and whether one bit of MRQC is 1 (`has`).
abbrev pub hashes : (mrqc : ℕ) → Bool
hashes mrqc = field 3 0 mrqc == 1 || field 3 0 mrqc == 0xA || field 3 0 mrqc == 0xB

abbrev pub has : (mrqc n : ℕ) → Bool
has mrqc n = bit n mrqc == 1

-- The RSS type. With ports, TCP over IPv4 has type 1 if MRQC bit 16 is 1, UDP over IPv4 type 7 if bit 22 is 1, TCP over
-- IPv6 type 3 if bit 21 is 1, and UDP over IPv6 type 8 if bit 23 is 1. By addresses only, IPv4 has type 2 if bit 17 is
-- 1, and IPv6 type 5 if bit 20 is 1. Everything else has type 0.
abbrev pub type_of : (mrqc : ℕ) → List ℕ → ℕ
type_of mrqc frame =
    if not (hashes mrqc) then 0
    else if over_ipv4 6 frame && has mrqc 16 then 1
    else if over_ipv4 17 frame && has mrqc 22 then 7
    else if over_ipv6 6 frame && has mrqc 21 then 3
    else if over_ipv6 17 frame && has mrqc 23 then 8
    else if is_ipv4 frame && has mrqc 17 then 2
    else if is_ipv6 frame && has mrqc 20 then 5
    else 0

-- The bytes that a type hashes.
abbrev pub hashed_bytes : (type : ℕ) → List ℕ → List ℕ
hashed_bytes type frame =
    if type == 1 || type == 7 then ipv4_addresses frame ++ ipv4_ports frame
    else if type == 2 then ipv4_addresses frame
    else if type == 3 || type == 8 then ipv6_addresses frame ++ ipv6_ports frame
    else if type == 5 then ipv6_addresses frame
    else []

-- The hash of these bytes with the key in RSSRK.
abbrev pub hash_of : Registers → List ℕ → ℕ
hash_of r frame =
    toeplitz_hash (bytes_of_registers (row_words r.words Rssrk))
    (hashed_bytes (type_of (word_of r Mrqc 0) frame) frame)

-- An accepted frame waits with that type, and with that hash while RXCSUM bit 13 is 1, otherwise with hash 0.
pub record JoinsTyped (s : State) (frame : List ℕ) (new : State) : Type 0 where
  pub last : Waiting
  pub waiting : new.waiting ≡ s.waiting ++ last ∷ []
  pub type : last.rss ≡ type_of (word_of s.registers Mrqc 0) frame
  pub reported : bit 13 (word_of s.registers Rxcsum 0) ≡ 1 → last.hash ≡ hash_of s.registers frame
  pub unreported : bit 13 (word_of s.registers Rxcsum 0) ≡ 0 → last.hash ≡ 0

abbrev pub FramesHaveTypes : Type 0
FramesHaveTypes =
    (s : State) (frame : List ℕ) → reply_to s (event.Arrive frame) ≡ Done →
    JoinsTyped s frame (after s (event.Arrive frame))
