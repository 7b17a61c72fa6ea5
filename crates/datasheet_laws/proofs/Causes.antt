-- What accesses to EICS and EICR, and to PVTEICS and PVTEICR, do to causes and masks.
use Rattle.std.proofs.Common.{◌≡◌, ◌≢◌, ℕ, ◌<◌, Bool, ◌&&◌, ◌||◌, refl, ap, sym, ◌∙◌, arith}
use Rattle.std.specs.Prelude.{bit_and, not, nat_le}
use Rattle.nic_device.specs.IntrUnit.BitSet.{BitSet, contains}
use Rattle.nic_device.specs.IntrUnit.Interrupts.{Interrupts, raised, after_read, after_write_one}
use Rattle.nic_device.specs.IntrUnit.Laws.{keeps_cause}
use Rattle.nic_device.proofs.IntrUnit.BitLaws.{raises_change, writes_of_ones_change, reads_change}
use Rattle.nic_device.specs.RegisterFile.Groups.{interrupts_of, with_interrupts, auto_masks, clears_others}
use Rattle.nic_device.proofs.RegisterLaws.Settled.{settled-raised, settled-after_read, settled-after_write_one}
use Rattle.nic_device.specs.declared.event.Event.TheVariants as event
use Rattle.nic_device.specs.declared.event.Port.TheVariants as port
use Rattle.datasheet_laws.specs.Prelude.{Eicr, Eics, Group, IsSound, Names, Pf, Pvteicr, Pvteics, State, Vf, after}
use Rattle.datasheet_laws.specs.Prelude.{after_write, has_bit, place, runs, state_read, state_written, view_among}
use Rattle.datasheet_laws.proofs.Prelude.{intersection-lt, settled, state-read, state-written}
use Rattle.datasheet_laws.specs.Accesses.{writes_one, cause_set, cause_cleared, read_keeps, causes_read, WriteOfCauseSetSets}
use Rattle.datasheet_laws.specs.Accesses.{WriteOfCausesClears, ReadOfCausesClears}
use Rattle.datasheet_laws.specs.Names.{IsGroup, bits_in, cause_register, cause_set_register}
use Rattle.datasheet_laws.specs.Shown.{bit_of, masks_by_access}
use Rattle.datasheet_laws.proofs.Alone.{write_alone, read_alone, written}
use Rattle.datasheet_laws.proofs.Bits.{and_true}
use Rattle.datasheet_laws.proofs.Changes.{bit_then, own_written, shows}
use Rattle.datasheet_laws.proofs.Groups.{own_bit, bit_in, shows_then}
use Rattle.datasheet_laws.proofs.Words.{acting, general_bit}

-- Writes to the register that sets causes.

pub set_bit : (i : Interrupts) (raise : BitSet) (acts : Bool) (bit : ℕ) → bit < bits_in i.group
    → bit_in (raised i raise acts) bit ≡ cause_set acts (contains raise bit) (bit_in i bit)
set_bit i raise acts bit b =
    let own = ap (λ x. contains raise bit && x) (own_bit i.group bit b) ∙ and_true (contains raise bit) in
    bit_then i (raised i raise acts) _ (raises_change i raise acts) bit b
    ∙ (λ k. record (bit_in i bit) {
      cause = contains i.causes bit || own k;
      mask = contains i.enabled bit || (acts && contains raise bit && contains i.auto_mask bit);
    })

pub registers_set : (s : State) (g : Group) (view word : ℕ)
    → (state_written s (cause_set_register g) view word).registers
    ≡ with_interrupts s.registers
    (raised (interrupts_of s.registers g) (bit_and word view) (auto_masks s.registers g))
registers_set s Pf view word = refl
registers_set s (Vf v) view word = refl

set_alone : (s : State) (g : Group) (a word : ℕ) → Names a (cause_set_register g) → (h : Group) → h ≢ g
    → interrupts_of (after_write s a word).registers h ≡ interrupts_of s.registers h
set_alone s Pf a word is h apart = write_alone s Pf (place Eics 0) a word is refl refl refl h apart
set_alone s (Vf v) a word is h apart = write_alone s (Vf v) (place Pvteics v) a word is refl refl refl h apart

pub set_at : (s : State) (g : Group) (view word : ℕ) → IsSound s → IsGroup g → (bit : ℕ) → bit < bits_in g
    → bit_of (state_written s (cause_set_register g) view word) g bit
    ≡ cause_set (masks_by_access s g) (has_bit bit word && has_bit bit view) (bit_of s g bit)
set_at s g view word h there bit b =
    let i = interrupts_of s.registers g in
    let raise = bit_and word view in
    let acts = auto_masks s.registers g in
    shows s (state_written s (cause_set_register g) view word) g (raised i raise acts) _ h there refl
    (settled-raised i (settled s.registers g) raise acts) (intersection-lt _ _) (raises_change i raise acts)
    (registers_set s g view word) (cause_set (masks_by_access s g) (has_bit bit word && has_bit bit view)) bit b
    (λ k. record (bit_in i bit) {
      cause = contains i.causes bit || own_written g word view bit b k;
      mask = contains i.enabled bit || (sym (acting s g) k && written word view bit k && contains i.auto_mask bit);
    })

pub cause_set_sets : WriteOfCauseSetSets
cause_set_sets s h g there a word is =
    shows_then s (after_write s a word) (state_written s (cause_set_register g) (view_among runs a) word) g
    (λ bit. cause_set (masks_by_access s g) (writes_one a word bit) (bit_of s g bit))
    (state-written s a word (cause_set_register g) is) (set_alone s g a word is)
    (set_at s g (view_among runs a) word h there)

-- Writes to the causes.

pub registers_cleared : (s : State) (g : Group) (view word : ℕ)
    → (state_written s (cause_register g) view word).registers
    ≡ with_interrupts s.registers
    (after_write_one (interrupts_of s.registers g) (bit_and word view) (auto_masks s.registers g))
registers_cleared s Pf view word = refl
registers_cleared s (Vf v) view word = refl

cleared_alone : (s : State) (g : Group) (a word : ℕ) → Names a (cause_register g) → (h : Group) → h ≢ g
    → interrupts_of (after_write s a word).registers h ≡ interrupts_of s.registers h
cleared_alone s Pf a word is h apart = write_alone s Pf (place Eicr 0) a word is refl refl refl h apart
cleared_alone s (Vf v) a word is h apart = write_alone s (Vf v) (place Pvteicr v) a word is refl refl refl h apart

pub cleared_at : (s : State) (g : Group) (view word : ℕ) → IsSound s → IsGroup g → (bit : ℕ) → bit < bits_in g
    → bit_of (state_written s (cause_register g) view word) g bit
    ≡ cause_cleared (masks_by_access s g) (has_bit bit word && has_bit bit view) (bit_of s g bit)
cleared_at s g view word h there bit b =
    let i = interrupts_of s.registers g in
    let ones = bit_and word view in
    let acts = auto_masks s.registers g in
    shows s (state_written s (cause_register g) view word) g (after_write_one i ones acts) _ h there refl
    (settled-after_write_one i (settled s.registers g) ones acts) (intersection-lt _ _)
    (writes_of_ones_change i ones acts) (registers_cleared s g view word)
    (cause_cleared (masks_by_access s g) (has_bit bit word && has_bit bit view)) bit b
    (λ k. record (bit_in i bit) {
      cause = contains i.causes bit && not (written word view bit k);
      mask = contains i.enabled bit
          && not (sym (acting s g) k && written word view bit k && contains i.auto_mask bit);
    })

pub causes_clear : WriteOfCausesClears
causes_clear s h g there a word is =
    shows_then s (after_write s a word) (state_written s (cause_register g) (view_among runs a) word) g
    (λ bit. cause_cleared (masks_by_access s g) (writes_one a word bit) (bit_of s g bit))
    (state-written s a word (cause_register g) is) (cleared_alone s g a word is)
    (cleared_at s g (view_among runs a) word h there)

-- Reads of the causes.

keeps : (s : State) (g : Group) (bit : ℕ) → keeps_cause g (clears_others s.registers) bit ≡ read_keeps s g bit
keeps s Pf bit =
    ap (λ x. x && not (nat_le 16 bit && nat_le bit 29)) (sym (general_bit s 5 (omega arith)))
keeps s (Vf v) bit = refl

pub registers_read : (s : State) (g : Group)
    → (state_read s (cause_register g)).registers
    ≡ with_interrupts s.registers
    (after_read (interrupts_of s.registers g) (clears_others s.registers) (auto_masks s.registers g))
registers_read s Pf = refl
registers_read s (Vf v) = refl

others_unread : (s : State) (g : Group) (a : ℕ) → Names a (cause_register g) → (h : Group) → h ≢ g
    → interrupts_of (after s (event.Read port.Pf a)).registers h ≡ interrupts_of s.registers h
others_unread s Pf a is h apart = read_alone s Pf (place Eicr 0) a is refl h apart
others_unread s (Vf v) a is h apart = read_alone s (Vf v) (place Pvteicr v) a is refl h apart

pub read_at : (s : State) (g : Group) → IsSound s → IsGroup g → (bit : ℕ) → bit < bits_in g
    → bit_of (state_read s (cause_register g)) g bit ≡ causes_read s g bit (bit_of s g bit)
read_at s g h there bit b =
    let i = interrupts_of s.registers g in
    let others = clears_others s.registers in
    let acts = auto_masks s.registers g in
    shows s (state_read s (cause_register g)) g (after_read i others acts) _ h there refl
    (settled-after_read i (settled s.registers g) others acts) (intersection-lt _ _)
    (reads_change i others acts (settled s.registers g).consistent) (registers_read s g) (causes_read s g bit) bit b
    (λ k. record (bit_in i bit) {
      cause = contains i.causes bit && keeps s g bit k;
      mask = contains i.enabled bit && not (sym (acting s g) k && contains i.auto_mask bit);
    })

pub read_clears : ReadOfCausesClears
read_clears s h g there a is =
    shows_then s (after s (event.Read port.Pf a)) (state_read s (cause_register g)) g
    (λ bit. causes_read s g bit (bit_of s g bit)) (state-read s a (cause_register g) is) (others_unread s g a is)
    (read_at s g h there)
