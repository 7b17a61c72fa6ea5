-- An IPv4 packet, which may be truncated or followed by padding.
use Rattle.std.specs.Prelude.{ℕ, ◌+◌, ◌*◌, ◌/◌, ◌%◌, ◌^◌, ◌==◌, nat_le, ◌&&◌, Bool, List, ◌++◌, length, slice_index, slice_range}
use Rattle.rss_hash.specs.Frame.{number_at}

-- The header's length in bytes. The header's first byte contains this length in words.
abbrev pub header_len : List ℕ → ℕ
header_len packet = 4 * (slice_index packet 0 % 16)

-- Version 4, with a complete header of at least five words.
unfoldable pub is_ipv4 : List ℕ → Bool
is_ipv4 packet =
    (slice_index packet 0 / 16 == 4) && nat_le 20 (header_len packet) && nat_le (header_len packet) (length packet)

-- Not a fragment of a larger packet: the "more fragments" bit, 13, and the offset in the bits below it are 0.
abbrev pub is_whole : List ℕ → Bool
is_whole packet = number_at packet 6 % 2 ^ 14 == 0

-- An unfragmented packet with this protocol, and with the four port bytes after the packet's header.
unfoldable pub ipv4_carries : ℕ → List ℕ → Bool
ipv4_carries protocol packet =
    (slice_index packet 9 == protocol) && is_whole packet && nat_le (header_len packet + 4) (length packet)

-- The source and destination addresses.
abbrev pub ipv4_addresses : List ℕ → List ℕ
ipv4_addresses packet = slice_range packet 12 16 ++ slice_range packet 16 20

-- The source and destination ports.
abbrev pub ipv4_ports : List ℕ → List ℕ
ipv4_ports packet =
    slice_range packet (header_len packet) (header_len packet + 2)
    ++ slice_range packet (header_len packet + 2) (header_len packet + 4)
