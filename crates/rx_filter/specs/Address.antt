-- The address filter: which frames are accepted, according to their destination. The destination is the first six bytes
-- of a frame.
use Rattle.std.specs.Prelude.{ℕ, ◌+◌, ◌*◌, ◌/◌, ◌%◌, ◌^◌, ◌==◌, ◌&&◌, ◌||◌}
use Rattle.std.specs.Prelude.{Bool, List, slice_index, find, Option, is_some, if◌then◌else◌}
use Rattle.std.specs.List.{range_with_len}
use Rattle.register_file.specs.RegTable.declared.rows.RowId.TheVariants.{Fctrl, Mcstctrl, Mta, Ral, Rah}
use Rattle.register_file.specs.Bits.{has_bit}
use Rattle.register_file.specs.Registers.{Registers, word_of}
use Rattle.rx_filter.specs.Fields.{MPE, UPE, BAM, MFE, AV}
use Rattle.rx_filter.specs.declared.fields.TheConstants.{MO}

-- The destination as RAL and RAH hold it: its first four bytes and its last two, little-endian.
abbrev pub destination_low : List ℕ → ℕ
destination_low frame =
    slice_index frame 0 + 2 ^ 8 * slice_index frame 1 + 2 ^ 16 * slice_index frame 2 + 2 ^ 24 * slice_index frame 3

abbrev pub destination_high : List ℕ → ℕ
destination_high frame = slice_index frame 4 + 2 ^ 8 * slice_index frame 5

-- A frame matches address i if the address is valid (RAH bit 31, AV) and equals the frame's destination.
abbrev pub matches : Registers → List ℕ → ℕ → Bool
matches r frame i =
    has_bit AV (word_of r Rah i) && word_of r Ral i == destination_low frame
    && word_of r Rah i % 2 ^ 16 == destination_high frame

-- The first of the 128 addresses that a frame matches, if any.
unfoldable pub first_match : Registers → List ℕ → Option ℕ
first_match r frame = find (matches r frame) (range_with_len 0 128)

-- A broadcast frame: each byte of the destination is 0xFF.
abbrev pub is_broadcast : List ℕ → Bool
is_broadcast frame = destination_low frame == 0xFFFFFFFF && destination_high frame == 0xFFFF

-- A multicast frame: the lowest bit of the first byte is 1.
abbrev pub is_multicast : List ℕ → Bool
is_multicast frame = slice_index frame 0 % 2 == 1

-- The number of bits by which a destination's last two bytes are shifted, for each value of MCSTCTRL bits 1 to 0, MO.
abbrev pub multicast_shift : ℕ → ℕ
multicast_shift bits = if bits == 0 then 4 else (if bits == 1 then 3 else (if bits == 2 then 2 else 0))

-- The index of a destination among the 4,096 bits of MTA: twelve bits of its last two bytes.
abbrev pub multicast_number : Registers → List ℕ → ℕ
multicast_number r frame =
    destination_high frame / 2 ^ multicast_shift (word_of r Mcstctrl 0 / 2 ^ MO % 4) % 2 ^ 12

-- Whether MTA contains a destination: MCSTCTRL bit 2, MFE, is 1, and the bit at the destination's index in MTA is 1.
abbrev pub is_in_table : Registers → List ℕ → Bool
is_in_table r frame =
    has_bit MFE (word_of r Mcstctrl 0)
    && has_bit (multicast_number r frame % 32) (word_of r Mta (multicast_number r frame / 32))

-- FCTRL bits 8, 9 and 10, MPE, UPE and BAM, accept all multicast frames, all unicast frames, and broadcast frames.
abbrev pub lets_multicast : Registers → Bool
lets_multicast r = has_bit MPE (word_of r Fctrl 0)

abbrev pub lets_unicast : Registers → Bool
lets_unicast r = has_bit UPE (word_of r Fctrl 0)

abbrev pub lets_broadcast : Registers → Bool
lets_broadcast r = has_bit BAM (word_of r Fctrl 0)

-- Whether the filter accepts a frame, according to the frame's destination.
unfoldable pub passes : Registers → List ℕ → Bool
passes r frame =
    if is_broadcast frame then lets_broadcast r || lets_multicast r
    else (if is_multicast frame then lets_multicast r || is_some (first_match r frame) || is_in_table r frame
    else lets_unicast r || is_some (first_match r frame))
