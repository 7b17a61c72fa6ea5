-- The differences between the physical function's group and a virtual function's group.
use Rattle.std.specs.Prelude.{ℕ, ◌+◌, ◌-◌, ◌/◌, ◌%◌, ◌^◌, ◌==◌, Bool, true, not, ◌&&◌, nat_lt, nat_le, if◌then◌else◌}
use Rattle.std.specs.Prelude.{Option, None, Some, is_some}
use Rattle.intr_unit.specs.declared.group.Group.{Group}
use Rattle.intr_unit.specs.declared.group.Group.TheVariants.{Pf, Vf}
use Rattle.intr_unit.specs.BitSet.{BitSet, no_bits, contains, bits_where, bits_from_to, only}

-- The bits of the group's registers.
unfoldable pub group_bits : Group → BitSet
group_bits Pf = bits_from_to 30 0
group_bits (Vf v) = bits_from_to 2 0

-- The bits that a read of the cause register clears. `ocd` is other-cause clearing in GPIE.
unfoldable pub bits_cleared_by_read : Group → Bool → BitSet
bits_cleared_by_read Pf ocd = if ocd then bits_from_to 29 16 else bits_from_to 30 0
bits_cleared_by_read (Vf v) ocd = bits_from_to 2 0

-- Whether the auto-mask acts on reads and writes. `eiame` is the GPIE bit that applies the auto-mask to messages
-- instead.
abbrev pub auto_mask_acts : Group → Bool → Bool
auto_mask_acts Pf eiame = not eiame
auto_mask_acts (Vf v) eiame = true

-- The number in bits `high` to `low` of the word.
abbrev pub field : ℕ → ℕ → ℕ → ℕ
field word high low = word / 2 ^ low % 2 ^ (high + 1 - low)

-- The vector, if the vector is valid and below 16.
abbrev pub vector_if : Bool → ℕ → Option ℕ
vector_if valid vector = if valid && nat_lt vector 16 then Some vector else None

-- The vector of the other causes, bits 29 to 16.
abbrev pub other_vector : ℕ → Option ℕ
other_vector misc = vector_if (contains misc 15) (field misc 13 8)

-- The vector of the TCP timer, bit 30.
abbrev pub timer_vector : ℕ → Option ℕ
timer_vector misc = vector_if (contains misc 7) (field misc 5 0)

-- The vector of the bit, or `None` if the bit isn't routed. `misc` is the word IVAR_MISC.
unfoldable pub vector_of : Group → ℕ → ℕ → Option ℕ
vector_of Pf misc bit =
    if nat_le bit 15 then Some bit
    else (if nat_le bit 29 then other_vector misc else (if bit == 30 then timer_vector misc else None))
vector_of (Vf v) misc bit = if nat_le bit 2 then Some bit else None

-- The bits that have a vector.
unfoldable pub routed_bits : Group → ℕ → BitSet
routed_bits group misc = bits_where (λ bit. is_some (vector_of group misc bit))

-- The highest bit that a queue can raise.
abbrev pub last_queue_cause : Group → ℕ
last_queue_cause Pf = 15
last_queue_cause (Vf v) = 2

-- The bit that a queue raises through its byte of IVAR or PVTIVAR: the bit that bits 5:0 name, if bit 7 is 1.
unfoldable pub queue_causes : Group → ℕ → BitSet
queue_causes group entry =
    if contains entry 7 && nat_le (field entry 5 0) (last_queue_cause group) then only (field entry 5 0) else no_bits
