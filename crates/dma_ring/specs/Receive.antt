-- The fields of a receive descriptor.
use Rattle.std.specs.Prelude.{ℕ, ◌+◌, ◌*◌, ◌/◌, ◌%◌, ◌^◌, Bool, if◌then◌else◌, ◌==◌}
use Rattle.dma_ring.specs.declared.receive.TheConstants.{IPV4, IPV6, TCP, UDP, HASH, DD, EOP, PKT_LEN}
use Rattle.dma_ring.specs.declared.receive.Packet.{Packet}

-- The buffer's address in the first half that the driver writes. Bit 0 is ignored.
abbrev pub buffer_of : ℕ → ℕ
buffer_of first = 2 * (first / 2)

-- The first half that the device writes back: the RSS type, the packet's protocols, and its hash.
abbrev pub reported_of : Packet → ℕ
reported_of packet =
    packet.rss + (if packet.ipv4 then 2 ^ IPV4 else 0) + (if packet.ipv6 then 2 ^ IPV6 else 0)
    + (if packet.tcp then 2 ^ TCP else 0) + (if packet.udp then 2 ^ UDP else 0) + 2 ^ HASH * packet.hash

-- The second half that the device writes back. It reports that the descriptor is done, whether the packet ends, and the
-- number of bytes.
abbrev pub written_back : ℕ → Bool → ℕ
written_back len end = (if end then 2 ^ DD + 2 ^ EOP else 2 ^ DD) + 2 ^ PKT_LEN * len

-- What a driver reads from a second half: whether the descriptor is done (`is_done`), whether the packet ends
-- (`ends_packet`), and the number of bytes (`bytes_in`).
abbrev pub is_done : ℕ → Bool
is_done second = second % 2 == 1

abbrev pub ends_packet : ℕ → Bool
ends_packet second = second / 2 % 2 == 1

abbrev pub bytes_in : ℕ → ℕ
bytes_in second = second / 2 ^ 32 % 2 ^ 16
