-- A mask that is set stays set, until one of the few events that clear it.
use Rattle.std.specs.Prelude.{ℕ, ◌≡◌, ◌<◌, Bool, ◌&&◌, ◌||◌, ⊤, IsTrue, IsFalse}
use Rattle.nic_device.specs.declared.event.Event.TheVariants as event
use Rattle.datasheet_laws.specs.Prelude.{Block, Ctrl, Event, Group, IsSound, Pf, Place, Pvfctrl, Register, State, Vf}
use Rattle.datasheet_laws.specs.Prelude.{after, has_bit, named, place}
use Rattle.datasheet_laws.specs.Names.{IsGroup, bits_in, cause_register, mask_clear_register, general_address}
use Rattle.datasheet_laws.specs.Shown.{bit_of, reads_one, masks_by_access}

-- Accesses to a bit's cause clear the bit's mask: the auto-mask contains the bit and applies to accesses.
abbrev pub masks_itself : State → Group → ℕ → Bool
masks_itself s g bit = masks_by_access s g && (bit_of s g bit).auto_mask

-- The register that resets the pool of a virtual function.
abbrev pub IsPoolReset : Group → Place → Type 0
IsPoolReset Pf p = ⊥
IsPoolReset (Vf v) p = p ≡ place Pvfctrl v

-- A write is neither a write to EIMC with the bit set nor a write to EICR with the bit set if the bit masks itself, and
-- it requests no reset of the device or of the function's pool. The same holds for PVTEIMC and PVTEICR.
pub record SparesMask (s : State) (g : Group) (bit : ℕ) (p : Place) (view word : ℕ) : Type 0 where
  pub mask_clear : p ≡ mask_clear_register g → IsFalse (has_bit bit word && has_bit bit view)
  pub cause : p ≡ cause_register g → IsFalse (has_bit bit word && has_bit bit view && masks_itself s g bit)
  pub control : p ≡ place Ctrl 0 → IsFalse (has_bit 3 word || has_bit 26 word)
  pub pool : IsPoolReset g p → IsFalse (has_bit 26 word)

-- An event doesn't clear the mask of a bit. It isn't a write that the definition above excludes, a read of EICR while
-- the bit masks itself, or a message of the group while GPIE bit 30 is 1 and the auto-mask contains the bit.
abbrev pub Spares : State → Group → ℕ → Event Block → Type 0
Spares s g bit (event.Read port number) =
    (p : Place) (view : ℕ) → named s port number ≡ Register p view → p ≡ cause_register g
    → IsFalse (masks_itself s g bit)
Spares s g bit (event.Write port number word) =
    (p : Place) (view : ℕ) → named s port number ≡ Register p view → SparesMask s g bit p view word
Spares s g bit (event.IntStep other) =
    other ≡ g → IsFalse (reads_one s general_address 30 && (bit_of s g bit).auto_mask)
Spares s g bit other = ⊤

-- A mask that reads as 1 reads as 1 after every event except the few that may clear it.
abbrev pub MasksLast : Type 0
MasksLast =
    (s : State) → IsSound s → (g : Group) → IsGroup g → (bit : ℕ) → bit < bits_in g → (e : Event Block) →
    Spares s g bit e → IsTrue (bit_of s g bit).mask → IsTrue (bit_of (after s e) g bit).mask
