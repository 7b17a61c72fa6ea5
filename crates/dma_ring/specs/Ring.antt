use Rattle.std.specs.Prelude.{ℕ, zero, suc, ◌+◌, ◌*◌, ◌/◌, ◌%◌, ◌^◌, Bool, ◌&&◌, not, nat_lt, ◌==◌, List, [], ◌∷◌, if◌then◌else◌}
use Rattle.dma_ring.specs.declared.ring.Ring.{Ring}

-- The number of slots in a ring, one for each 16 bytes.
abbrev pub slots_of : Ring → ℕ
slots_of r = r.length / 16

-- Whether the head or the tail isn't a slot of the ring.
abbrev pub is_outside : Ring → Bool
is_outside r = not (nat_lt r.head (slots_of r) && nat_lt r.tail (slots_of r))

-- The slot that follows `slot` in a ring with `slots` slots. Slot 0 follows the last slot.
abbrev pub next_of : ℕ → ℕ → ℕ
next_of slots slot = if slot + 1 == slots then 0 else slot + 1

-- The bus address of a slot's descriptor.
abbrev pub descriptor_address : Ring → ℕ → ℕ
descriptor_address r slot = (r.base + 16 * slot) % 2 ^ 64

-- The slots from `slot` up to, but not including, the tail, in a ring with `slots` slots. The list contains at most
-- `most` slots.
unfoldable pub slots_up_to : ℕ → ℕ → ℕ → ℕ → List ℕ
slots_up_to slots tail zero slot = []
slots_up_to slots tail (suc most) slot =
    if slot == tail then [] else slot ∷ slots_up_to slots tail most (next_of slots slot)

-- The slots that the device owns: from the head up to, but not including, the tail.
abbrev pub available_slots : Ring → List ℕ
available_slots r = slots_up_to (slots_of r) r.tail (slots_of r) r.head
