-- Sets of bits 0 to 31 of a register. A set is represented by the word in which exactly the set's bits are 1. No other
-- file depends on this representation.
use Rattle.std.specs.Prelude.{ℕ, suc, zero, ◌+◌, ◌*◌, ◌^◌, ◌==◌, Bool, IsTrue, not, ◌&&◌, ◌||◌, nat_le, if◌then◌else◌}
use Rattle.std.specs.Prelude.{Option}
use Rattle.std.specs.Int.{bit_at}
use Rattle.std.specs.List.{find, range_with_len}

-- A set of bits.
abbrev pub BitSet : Type 0
BitSet = ℕ

-- The empty set.
abbrev pub no_bits : BitSet
no_bits = 0

-- Whether the bit is in the set: the bit is 1 in the word.
unfoldable pub contains : BitSet → ℕ → Bool
contains set bit = bit_at set bit == 1

-- The bits below a bound that pass the test.
unfoldable pub bits_below : ℕ → (ℕ → Bool) → BitSet
bits_below zero test = 0
bits_below (suc n) test = (if test n then 1 else 0) * 2 ^ n + bits_below n test

-- The bits of a register that pass the test.
unfoldable pub bits_where : (ℕ → Bool) → BitSet
bits_where test = bits_below 32 test

-- The bits in at least one of the two sets.
unfoldable pub union : BitSet → BitSet → BitSet
union left right = bits_where (λ bit. contains left bit || contains right bit)

-- The bits in both sets.
unfoldable pub intersection : BitSet → BitSet → BitSet
intersection left right = bits_where (λ bit. contains left bit && contains right bit)

-- The bits of the first set that aren't in the second.
unfoldable pub difference : BitSet → BitSet → BitSet
difference left right = bits_where (λ bit. contains left bit && not (contains right bit))

-- The set if the condition holds, otherwise the empty set.
unfoldable pub when : Bool → BitSet → BitSet
when condition set = if condition then set else no_bits

-- The set that contains only one bit.
unfoldable pub only : ℕ → BitSet
only chosen = bits_where (λ bit. bit == chosen)

-- The bits `high` to `low`, both included.
unfoldable pub bits_from_to : ℕ → ℕ → BitSet
bits_from_to high low = bits_where (λ bit. nat_le low bit && nat_le bit high)

-- The lowest bit of the set, or `None` if the set is empty.
unfoldable pub lowest_of : BitSet → Option ℕ
lowest_of set = find (contains set) (range_with_len 0 32)

-- Each bit of `inner` is in `outer`.
pub record IsSubset (inner outer : BitSet) : Type 0 where
  pub member : (bit : ℕ) → IsTrue (contains inner bit) → IsTrue (contains outer bit)
