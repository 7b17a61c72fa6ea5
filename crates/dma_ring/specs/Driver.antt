-- What a driver writes into descriptors and reads from them.
use Rattle.std.specs.Prelude.{ℕ, ◌≡◌, ◌+◌, ◌*◌, ◌/◌, ◌%◌, ◌^◌, ◌<◌, Bool, true, false, if◌then◌else◌}
use Rattle.dma_ring.specs.Bits.{has_bit, field}
use Rattle.dma_ring.specs.Receive.{buffer_of, reported_of}
use Rattle.dma_ring.specs.Transmit.{command_of}
use Rattle.dma_ring.specs.declared.driver.TheConstants.{DATA, LAST, PAYLEN}
use Rattle.dma_ring.specs.declared.receive.Packet.{Packet}
use Rattle.dma_ring.specs.declared.transmit.Command.{Command}

-- The first half with which a driver posts a buffer: the buffer's address.
abbrev pub posted : ℕ → ℕ
posted address = address

-- The RSS type (`rss_in`) or the hash (`hash_in`) in a written-back first half.
abbrev pub rss_in : ℕ → ℕ
rss_in first = first % 2 ^ 4

abbrev pub hash_in : ℕ → ℕ
hash_in first = first / 2 ^ 32

-- The second half of a transmit data descriptor. It contains the lengths of the buffer and of the packet, and whether
-- the packet ends with this buffer.
abbrev pub data_word : ℕ → Bool → ℕ → ℕ
data_word len last payload = (if last then DATA + LAST else DATA) + len + 2 ^ PAYLEN * payload

-- If a driver posts an even buffer address, the device reads this address from the posted word.
abbrev pub PostedIsTheBuffer : Type 0
PostedIsTheBuffer = (address : ℕ) → address % 2 ≡ 0 → buffer_of (posted address) ≡ address

-- A driver reads the RSS type and the hash that the device reports for a packet.
pub record TellsBoth (first : ℕ) (packet : Packet) : Type 0 where
  pub rss : rss_in first ≡ packet.rss
  pub hash : hash_in first ≡ packet.hash

abbrev pub ReportedIsRead : Type 0
ReportedIsRead = (packet : Packet) → packet.rss < 2 ^ 4 → packet.hash < 2 ^ 32 → TellsBoth (reported_of packet) packet

-- The command of a data descriptor for `len` bytes, without offloads. The packet ends, and a report is requested, if
-- and only if `last` is set.
abbrev pub data_command : ℕ → Bool → Command
data_command len last =
    record { len = len; kind = 3; end = last; report = last; extended = true; offload = false }

-- The device reads this command from the data descriptor. The descriptor isn't done, IFCS is 1, and PAYLEN contains the
-- packet's length.
pub record IsDataWord (word len : ℕ) (last : Bool) (payload : ℕ) : Type 0 where
  pub fits : word < 2 ^ 64
  pub command : command_of word ≡ data_command len last
  pub waits : has_bit 32 word ≡ false
  pub sequence : has_bit 25 word ≡ true
  pub whole : field 63 46 word ≡ payload

abbrev pub DataIsAsked : Type 0
DataIsAsked =
    (len : ℕ) (last : Bool) (payload : ℕ) → len < 2 ^ 16 → payload < 2 ^ 18
    → IsDataWord (data_word len last payload) len last payload
