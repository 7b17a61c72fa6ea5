-- An Ethernet frame without its frame check sequence.
use Rattle.std.specs.Prelude.{ℕ, ◌+◌, ◌*◌, List, drop, slice_index}

-- The 16-bit number in bytes `i` and `i + 1`, in network order.
abbrev pub number_at : List ℕ → ℕ → ℕ
number_at bytes i = 256 * slice_index bytes i + slice_index bytes (i + 1)

-- The EtherType, which follows the two addresses.
abbrev pub ether_type : List ℕ → ℕ
ether_type frame = number_at frame 12

-- The packet after the frame's 14-byte header.
abbrev pub packet_of : List ℕ → List ℕ
packet_of frame = drop 14 frame
