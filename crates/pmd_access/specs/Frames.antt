-- The length of a driver's frames, including the frame check sequence of 4 bytes.
use Rattle.std.specs.Prelude.{ℕ, ◌+◌, ◌-◌, ◌/◌, ◌&&◌, Bool, nat_le}

-- The smallest and the largest permitted limit, in bytes.
abbrev pub shortest_frame : ℕ
shortest_frame = 1518

abbrev pub longest_frame : ℕ
longest_frame = 9728

-- Whether this is a permitted limit on the length of frames, in bytes.
abbrev pub is_frame : ℕ → Bool
is_frame frame = nat_le shortest_frame frame && nat_le frame longest_frame

-- The maximum length of a packet in bytes: the frame without its check sequence.
abbrev pub packet_limit : ℕ → ℕ
packet_limit frame = frame - 4

-- The maximum number of blocks in a packet, given the maximum length of a frame.
abbrev pub most_blocks : ℕ → ℕ
most_blocks frame = (packet_limit frame + 2047) / 2048
