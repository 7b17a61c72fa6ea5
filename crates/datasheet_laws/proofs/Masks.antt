-- What accesses to EIMS and EIMC, and to PVTEIMS and PVTEIMC, do to masks.
use Rattle.std.proofs.Common.{◌≡◌, ◌≢◌, ℕ, ◌<◌, Bool, ◌&&◌, ◌||◌, refl}
use Rattle.std.specs.Prelude.{bit_and, not}
use Rattle.nic_device.specs.IntrUnit.Interrupts.{after_mask_set, after_mask_clear}
use Rattle.nic_device.proofs.IntrUnit.BitLaws.{mask_sets_change, mask_clears_change}
use Rattle.nic_device.specs.RegisterFile.Groups.{interrupts_of, with_interrupts}
use Rattle.nic_device.proofs.RegisterLaws.Settled.{settled-after_mask_set, settled-after_mask_clear}
use Rattle.datasheet_laws.specs.Prelude.{Eics, Eimc, Eims, Group, IsSound, Names, Pf, Pvteics, Pvteimc, Pvteims, State}
use Rattle.datasheet_laws.specs.Prelude.{Vf, after_write, contains, has_bit, place, runs, state_written, view_among}
use Rattle.datasheet_laws.proofs.Prelude.{intersection-lt, settled, state-written}
use Rattle.datasheet_laws.specs.Accesses.{writes_one, WriteOfMasksSets, WriteOfMaskClearClears, SetAndClearReadZero}
use Rattle.datasheet_laws.specs.Names.{IsGroup, bits_in, mask_register, mask_clear_register}
use Rattle.datasheet_laws.specs.Shown.{Bit, bit_of}
use Rattle.datasheet_laws.proofs.Alone.{write_alone, written}
use Rattle.datasheet_laws.proofs.Changes.{own_written, shows}
use Rattle.datasheet_laws.proofs.Groups.{bit_in, shows_then}
use Rattle.datasheet_laws.proofs.Words.{reply-read}

abbrev pub mask_set : Bool → Bit → Bit
mask_set one b = record b { mask = b.mask || one }

abbrev pub mask_cleared : Bool → Bit → Bit
mask_cleared one b = record b { mask = b.mask && not one }

-- Writes to the masks.

pub registers_set : (s : State) (g : Group) (view word : ℕ)
    → (state_written s (mask_register g) view word).registers
    ≡ with_interrupts s.registers (after_mask_set (interrupts_of s.registers g) (bit_and word view))
registers_set s Pf view word = refl
registers_set s (Vf v) view word = refl

set_alone : (s : State) (g : Group) (a word : ℕ) → Names a (mask_register g) → (h : Group) → h ≢ g
    → interrupts_of (after_write s a word).registers h ≡ interrupts_of s.registers h
set_alone s Pf a word is h apart = write_alone s Pf (place Eims 0) a word is refl refl refl h apart
set_alone s (Vf v) a word is h apart = write_alone s (Vf v) (place Pvteims v) a word is refl refl refl h apart

pub set_at : (s : State) (g : Group) (view word : ℕ) → IsSound s → IsGroup g → (bit : ℕ) → bit < bits_in g
    → bit_of (state_written s (mask_register g) view word) g bit
    ≡ mask_set (has_bit bit word && has_bit bit view) (bit_of s g bit)
set_at s g view word h there bit b =
    let i = interrupts_of s.registers g in
    let ones = bit_and word view in
    shows s (state_written s (mask_register g) view word) g (after_mask_set i ones) _ h there refl
    (settled-after_mask_set i (settled s.registers g) ones) (intersection-lt _ _) (mask_sets_change i ones)
    (registers_set s g view word) (mask_set (has_bit bit word && has_bit bit view)) bit b
    (λ k. record (bit_in i bit) { mask = contains i.enabled bit || own_written g word view bit b k })

pub masks_set : WriteOfMasksSets
masks_set s h g there a word is =
    shows_then s (after_write s a word) (state_written s (mask_register g) (view_among runs a) word) g
    (λ bit. mask_set (writes_one a word bit) (bit_of s g bit))
    (state-written s a word (mask_register g) is) (set_alone s g a word is)
    (set_at s g (view_among runs a) word h there)

-- Writes to the register that clears masks.

pub registers_cleared : (s : State) (g : Group) (view word : ℕ)
    → (state_written s (mask_clear_register g) view word).registers
    ≡ with_interrupts s.registers (after_mask_clear (interrupts_of s.registers g) (bit_and word view))
registers_cleared s Pf view word = refl
registers_cleared s (Vf v) view word = refl

cleared_alone : (s : State) (g : Group) (a word : ℕ) → Names a (mask_clear_register g) → (h : Group) → h ≢ g
    → interrupts_of (after_write s a word).registers h ≡ interrupts_of s.registers h
cleared_alone s Pf a word is h apart = write_alone s Pf (place Eimc 0) a word is refl refl refl h apart
cleared_alone s (Vf v) a word is h apart = write_alone s (Vf v) (place Pvteimc v) a word is refl refl refl h apart

pub cleared_at : (s : State) (g : Group) (view word : ℕ) → IsSound s → IsGroup g → (bit : ℕ) → bit < bits_in g
    → bit_of (state_written s (mask_clear_register g) view word) g bit
    ≡ mask_cleared (has_bit bit word && has_bit bit view) (bit_of s g bit)
cleared_at s g view word h there bit b =
    let i = interrupts_of s.registers g in
    let ones = bit_and word view in
    shows s (state_written s (mask_clear_register g) view word) g (after_mask_clear i ones) _ h there refl
    (settled-after_mask_clear i (settled s.registers g) ones) (intersection-lt _ _) (mask_clears_change i ones)
    (registers_cleared s g view word) (mask_cleared (has_bit bit word && has_bit bit view)) bit b
    (λ k. record (bit_in i bit) { mask = contains i.enabled bit && not (written word view bit k) })

pub masks_clear : WriteOfMaskClearClears
masks_clear s h g there a word is =
    shows_then s (after_write s a word) (state_written s (mask_clear_register g) (view_among runs a) word) g
    (λ bit. mask_cleared (writes_one a word bit) (bit_of s g bit))
    (state-written s a word (mask_clear_register g) is) (cleared_alone s g a word is)
    (cleared_at s g (view_among runs a) word h there)

-- Reads of the set and clear registers.

pub read_zero : SetAndClearReadZero
read_zero s Pf = record {
  cause_set = λ a is. reply-read s a (place Eics 0) is;
  mask_clear = λ a is. reply-read s a (place Eimc 0) is;
}
read_zero s (Vf v) = record {
  cause_set = λ a is. reply-read s a (place Pvteics v) is;
  mask_clear = λ a is. reply-read s a (place Pvteimc v) is;
}
