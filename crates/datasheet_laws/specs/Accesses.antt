-- What accesses to a group's registers do, as later reads show.
use Rattle.std.specs.Prelude.{ℕ, ◌≡◌, ◌<◌, ◌≤◌, Bool, false, not, ◌&&◌, ◌||◌, nat_le, if◌then◌else◌}
use Rattle.nic_device.specs.declared.event.Event.TheVariants as event
use Rattle.nic_device.specs.declared.event.Port.TheVariants as port
use Rattle.datasheet_laws.specs.Prelude.{Group, IsSound, Names, Pf, Place, State, Vf, Word, after, after_write, has_bit}
use Rattle.datasheet_laws.specs.Prelude.{reply_to_read, runs, view_among}
use Rattle.datasheet_laws.specs.Names.{IsGroup, bits_in, cause_register, cause_set_register, mask_register}
use Rattle.datasheet_laws.specs.Names.{mask_clear_register, auto_clear_register, auto_mask_register, general_address}
use Rattle.datasheet_laws.specs.Shown.{Bit, bit_of, reads_one, masks_by_access, ShowsThen}

-- Whether an address shows a bit, and whether a write through it writes the bit as 1.
abbrev pub shows : ℕ → ℕ → Bool
shows address bit = has_bit bit (view_among runs address)

abbrev pub writes_one : (address word bit : ℕ) → Bool
writes_one address word bit = has_bit bit word && shows address bit

-- A bit after an access set its cause. The access also sets the mask if the auto-mask contains the bit and applies to
-- accesses.
abbrev pub cause_set : (acts one : Bool) → Bit → Bit
cause_set acts one b = record b { cause = b.cause || one; mask = b.mask || (acts && one && b.auto_mask) }

-- A bit after an access cleared its cause. The access also clears the mask if the auto-mask contains the bit and
-- applies to accesses.
abbrev pub cause_cleared : (acts one : Bool) → Bit → Bit
cause_cleared acts one b =
    record b { cause = b.cause && not one; mask = b.mask && not (acts && one && b.auto_mask) }

-- A write to EICS or PVTEICS sets the causes of the bits that are written as 1 and that the address shows. The write
-- also sets the masks of those bits that the auto-mask contains, if the auto-mask applies to accesses.
abbrev pub WriteOfCauseSetSets : Type 0
WriteOfCauseSetSets =
    (s : State) → IsSound s → (g : Group) → IsGroup g → (address word : ℕ) → Names address (cause_set_register g) →
    ShowsThen s (after_write s address word) g
    (λ bit. cause_set (masks_by_access s g) (writes_one address word bit) (bit_of s g bit))

-- A write to EICR or PVTEICR clears the causes of the bits written as 1, and no others.
abbrev pub WriteOfCausesClears : Type 0
WriteOfCausesClears =
    (s : State) → IsSound s → (g : Group) → IsGroup g → (address word : ℕ) → Names address (cause_register g) →
    ShowsThen s (after_write s address word) g
    (λ bit. cause_cleared (masks_by_access s g) (writes_one address word bit) (bit_of s g bit))

-- Whether a read keeps a cause: a read of EICR while GPIE bit 5 is 1 keeps the causes outside bits 29 to 16; other
-- reads keep none.
abbrev pub read_keeps : State → Group → ℕ → Bool
read_keeps s Pf bit = reads_one s general_address 5 && not (nat_le 16 bit && nat_le bit 29)
read_keeps s (Vf v) bit = false

-- A read of EICR or PVTEICR clears causes. If the auto-mask applies to accesses, the read also clears the mask of every
-- bit that the auto-mask contains.
abbrev pub causes_read : State → Group → ℕ → Bit → Bit
causes_read s g bit b =
    record b {
      cause = b.cause && read_keeps s g bit;
      mask = b.mask && not (masks_by_access s g && b.auto_mask);
    }

abbrev pub ReadOfCausesClears : Type 0
ReadOfCausesClears =
    (s : State) → IsSound s → (g : Group) → IsGroup g → (address : ℕ) → Names address (cause_register g) →
    ShowsThen s (after s (event.Read port.Pf address)) g (λ bit. causes_read s g bit (bit_of s g bit))

-- A write to EIMS or PVTEIMS sets the masks of the bits written as 1.
abbrev pub WriteOfMasksSets : Type 0
WriteOfMasksSets =
    (s : State) → IsSound s → (g : Group) → IsGroup g → (address word : ℕ) → Names address (mask_register g) →
    ShowsThen s (after_write s address word) g
    (λ bit. record (bit_of s g bit) { mask = (bit_of s g bit).mask || writes_one address word bit })

-- A write to EIMC or PVTEIMC clears the masks of the bits written as 1.
abbrev pub WriteOfMaskClearClears : Type 0
WriteOfMaskClearClears =
    (s : State) → IsSound s → (g : Group) → IsGroup g → (address word : ℕ) → Names address (mask_clear_register g) →
    ShowsThen s (after_write s address word) g
    (λ bit. record (bit_of s g bit) { mask = (bit_of s g bit).mask && not (writes_one address word bit) })

-- EICS and PVTEICS, and EIMC and PVTEIMC, read as 0.
pub record ReadsZero (s : State) (g : Group) : Type 0 where
  pub cause_set : (address : ℕ) → Names address (cause_set_register g) → reply_to_read s address ≡ Word 0
  pub mask_clear : (address : ℕ) → Names address (mask_clear_register g) → reply_to_read s address ≡ Word 0

abbrev pub SetAndClearReadZero : Type 0
SetAndClearReadZero = (s : State) (g : Group) → ReadsZero s g

-- A write to EIAC, PVTEIAC, EIAM or PVTEIAM is stored in the bits that the address shows.
abbrev pub written_bit : (address word bit : ℕ) → Bool → Bool
written_bit address word bit old = if shows address bit then has_bit bit word else old

abbrev pub WriteOfAutoClearIsKept : Type 0
WriteOfAutoClearIsKept =
    (s : State) → IsSound s → (g : Group) → IsGroup g → (address word : ℕ) → Names address (auto_clear_register g) →
    ShowsThen s (after_write s address word) g
    (λ bit. record (bit_of s g bit) { auto_clear = written_bit address word bit (bit_of s g bit).auto_clear })

abbrev pub WriteOfAutoMaskIsKept : Type 0
WriteOfAutoMaskIsKept =
    (s : State) → IsSound s → (g : Group) → IsGroup g → (address word : ℕ) → Names address (auto_mask_register g) →
    ShowsThen s (after_write s address word) g
    (λ bit. record (bit_of s g bit) { auto_mask = written_bit address word bit (bit_of s g bit).auto_mask })

-- A read at any address of a register returns those bits of the register's word that the address shows.
abbrev pub ReadsShowTheView : Type 0
ReadsShowTheView =
    (s : State) (p : Place) (whole address bit : ℕ) → Names whole p → view_among runs whole ≡ 0xFFFFFFFF →
    Names address p → bit < 32 → reads_one s address bit ≡ (reads_one s whole bit && shows address bit)

-- No bit beyond the bits of the group's registers reads as 1.
abbrev pub OtherBitsReadZero : Type 0
OtherBitsReadZero =
    (s : State) → IsSound s → (g : Group) → IsGroup g → (bit : ℕ) → bits_in g ≤ bit → bit < 32 →
    bit_of s g bit ≡ record { cause = false; mask = false; auto_clear = false; auto_mask = false }
