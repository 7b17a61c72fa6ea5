-- An IPv6 packet, which may be truncated or followed by padding.
use Rattle.std.specs.Prelude.{ℕ, ◌/◌, ◌==◌, nat_le, ◌&&◌, Bool, List, ◌++◌, length, slice_index, slice_range}

-- Version 6, with a complete 40-byte header.
unfoldable pub is_ipv6 : List ℕ → Bool
is_ipv6 packet = (slice_index packet 0 / 16 == 6) && nat_le 40 (length packet)

-- The next header field of the IPv6 header contains this protocol, and the four port bytes follow the header.
unfoldable pub ipv6_carries : ℕ → List ℕ → Bool
ipv6_carries protocol packet = (slice_index packet 6 == protocol) && nat_le 44 (length packet)

-- The source and destination addresses.
abbrev pub ipv6_addresses : List ℕ → List ℕ
ipv6_addresses packet = slice_range packet 8 24 ++ slice_range packet 24 40

-- The source and destination ports.
abbrev pub ipv6_ports : List ℕ → List ℕ
ipv6_ports packet = slice_range packet 40 42 ++ slice_range packet 42 44
