-- The protocol headers of a frame, by its bytes: numbers are in network order, and byte 0 is the first of the
-- destination.
use Rattle.std.specs.Prelude.{ℕ, ◌+◌, ◌*◌, ◌/◌, ◌%◌, ◌^◌, ◌==◌, nat_le, ◌&&◌, ◌||◌, Bool, List, ◌++◌, length, take, drop, slice_index}

-- The number in two bytes, the higher first.
abbrev pub pair_at : List ℕ → ℕ → ℕ
pair_at frame k = 256 * slice_index frame k + slice_index frame (k + 1)

-- `n` bytes starting at byte `at`.
abbrev pub bytes_at : List ℕ → (at n : ℕ) → List ℕ
bytes_at frame at n = take n (drop at frame)

-- The length of an IPv4 header in bytes: byte 14 counts it in words of four bytes, in bits 3 to 0.
abbrev pub header_bytes : List ℕ → ℕ
header_bytes frame = 4 * (slice_index frame 14 % 16)

-- IPv4: bytes 12 and 13 are 0x0800, byte 14 has 4 in bits 7 to 4, and the header is complete, with at least 20 bytes.
abbrev pub is_ipv4 : List ℕ → Bool
is_ipv4 frame =
    pair_at frame 12 == 0x0800 && slice_index frame 14 / 16 == 4 && nat_le 20 (header_bytes frame)
    && nat_le (14 + header_bytes frame) (length frame)

-- IPv6: bytes 12 and 13 are 0x86DD, byte 14 has 6 in bits 7 to 4, and the 40-byte header is complete.
abbrev pub is_ipv6 : List ℕ → Bool
is_ipv6 frame = pair_at frame 12 == 0x86DD && slice_index frame 14 / 16 == 6 && nat_le 54 (length frame)

-- A protocol over IPv4, in byte 23 of a packet that isn't a fragment (bytes 20 and 21 have 0 in bits 13 to 0), or over
-- IPv6, in byte 20. The four bytes of the ports are present.
abbrev pub over_ipv4 : (protocol : ℕ) → List ℕ → Bool
over_ipv4 protocol frame =
    is_ipv4 frame && slice_index frame 23 == protocol && pair_at frame 20 % 2 ^ 14 == 0
    && nat_le (18 + header_bytes frame) (length frame)

abbrev pub over_ipv6 : (protocol : ℕ) → List ℕ → Bool
over_ipv6 protocol frame = is_ipv6 frame && slice_index frame 20 == protocol && nat_le 58 (length frame)

-- TCP is protocol 6, UDP is protocol 17.
abbrev pub is_tcp : List ℕ → Bool
is_tcp frame = over_ipv4 6 frame || over_ipv6 6 frame

abbrev pub is_udp : List ℕ → Bool
is_udp frame = over_ipv4 17 frame || over_ipv6 17 frame

-- Source and destination address, and source and destination port.
abbrev pub ipv4_addresses : List ℕ → List ℕ
ipv4_addresses frame = bytes_at frame 26 4 ++ bytes_at frame 30 4

abbrev pub ipv4_ports : List ℕ → List ℕ
ipv4_ports frame = bytes_at frame (14 + header_bytes frame) 2 ++ bytes_at frame (16 + header_bytes frame) 2

abbrev pub ipv6_addresses : List ℕ → List ℕ
ipv6_addresses frame = bytes_at frame 22 16 ++ bytes_at frame 38 16

abbrev pub ipv6_ports : List ℕ → List ℕ
ipv6_ports frame = bytes_at frame 54 2 ++ bytes_at frame 56 2
