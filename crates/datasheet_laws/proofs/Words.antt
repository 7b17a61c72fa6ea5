-- Which bits of a register's word the reads of its addresses show.
use Rattle.std.proofs.Common.{◌≡◌, ℕ, ◌<◌, refl, ap, sym, ◌∙◌, ◌&&◌, not, arith}
use Rattle.std.specs.Prelude.{bit_and}
use Rattle.nic_device.specs.RegTable.declared.rows.RowId.TheVariants.{Eicr, Eims, Eiac, Eiam, Gpie, Pvteicr, Pvteims, Pvteiac, Pvteiam}
use Rattle.nic_device.proofs.RegTable.Finding.{found-named}
use Rattle.nic_device.specs.declared.event.Port.TheVariants as port
use Rattle.datasheet_laws.specs.Prelude.{Block, Group, Names, Pf, Place, Register, Registers, Reply, State, Vf, Word}
use Rattle.datasheet_laws.specs.Prelude.{at_place, auto_masks, has_bit, named, named_read, place, reply_to_read, runs}
use Rattle.datasheet_laws.specs.Prelude.{step_of, view_among, word_at, word_read}
use Rattle.datasheet_laws.specs.Names.{IsGroup, IsAddressOf, bits_in, cause_register, mask_register, auto_clear_register}
use Rattle.datasheet_laws.specs.Names.{auto_mask_register, general_address}
use Rattle.datasheet_laws.specs.Shown.{Bit, bit_of, word_in, reads_one, masks_by_access}
use Rattle.datasheet_laws.specs.Accesses.{ReadsShowTheView}
use Rattle.datasheet_laws.proofs.Addresses.{addresses, general_there}
use Rattle.datasheet_laws.proofs.Bits.{has_bit-and, has_bit-whole}

pub named-at : (s : State) (a : ℕ) (p : Place) → Names a p → named s port.Pf a ≡ Register p (view_among runs a)
named-at s a p is = ap (λ o. at_place o (view_among runs a)) ((found-named a p).1 is)

pub reply-read : (s : State) (a : ℕ) (p : Place) → Names a p
    → reply_to_read s a ≡ Word (bit_and (word_read s p) (view_among runs a))
unfolding step_of
reply-read s a p is = ap (λ m. (named_read s m).reply) (named-at s a p is)

-- A bit of the word, if the address shows it.
pub bit-read : (s : State) (a bit : ℕ) (p : Place) → Names a p
    → reads_one s a bit ≡ (has_bit bit (word_read s p) && has_bit bit (view_among runs a))
bit-read s a bit p is =
    ap (λ (r : Reply Block). has_bit bit (word_in r)) (reply-read s a p is)
    ∙ has_bit-and (word_read s p) (view_among runs a) bit

-- A bit of the word, at an address that shows all.
pub whole-read : (s : State) (a bit : ℕ) (p : Place) → IsAddressOf p a 0xFFFFFFFF → bit < 32
    → reads_one s a bit ≡ has_bit bit (word_read s p)
whole-read s a bit p is b =
    ap (λ (r : Reply Block). has_bit bit (word_in r)) (reply-read s a p is.named)
    ∙ ap (λ v. has_bit bit (bit_and (word_read s p) v)) is.view
    ∙ has_bit-whole (word_read s p) bit b

pub view_shown : ReadsShowTheView
view_shown s p whole a bit named all same b =
    bit-read s a bit p same
    ∙ ap (λ x. x && has_bit bit (view_among runs a))
    (sym (whole-read s whole bit p (record { named = named; view = all }) b))

-- The bits of a group by its words.
abbrev pub by_words : Registers → Group → ℕ → Bit
by_words r g bit =
    record {
      cause = has_bit bit (word_at r.words (cause_register g));
      mask = has_bit bit (word_at r.words (mask_register g));
      auto_clear = has_bit bit (word_at r.words (auto_clear_register g));
      auto_mask = has_bit bit (word_at r.words (auto_mask_register g));
    }

pub bit_of-words : (s : State) (g : Group) → IsGroup g → (bit : ℕ) → bit < 32
    → bit_of s g bit ≡ by_words s.registers g bit
bit_of-words s Pf h bit b =
    let at = addresses Pf h in
    let cause = whole-read s 0x00800 bit (place Eicr 0) at.cause b in
    let mask = whole-read s 0x00880 bit (place Eims 0) at.mask b in
    let clear = whole-read s 0x00810 bit (place Eiac 0) at.auto_clear b in
    let auto = whole-read s 0x00890 bit (place Eiam 0) at.auto_mask b in
    λ k. record { cause = cause k; mask = mask k; auto_clear = clear k; auto_mask = auto k }
bit_of-words s (Vf v) h bit b =
    let at = addresses (Vf v) h in
    let cause = whole-read s _ bit (place Pvteicr v) at.cause b in
    let mask = whole-read s _ bit (place Pvteims v) at.mask b in
    let clear = whole-read s _ bit (place Pvteiac v) at.auto_clear b in
    let auto = whole-read s _ bit (place Pvteiam v) at.auto_mask b in
    λ k. record { cause = cause k; mask = mask k; auto_clear = clear k; auto_mask = auto k }

-- A bit of GPIE.
pub general_bit : (s : State) (bit : ℕ) → bit < 32
    → reads_one s general_address bit ≡ has_bit bit (word_at s.registers.words (place Gpie 0))
general_bit s bit b = whole-read s general_address bit (place Gpie 0) general_there b

pub acting : (s : State) (g : Group) → masks_by_access s g ≡ auto_masks s.registers g
acting s Pf = ap not (general_bit s 30 (omega arith))
acting s (Vf v) = refl

pub small : (g : Group) (bit : ℕ) → bit < bits_in g → bit < 32
small Pf bit b = omega arith
small (Vf v) bit b = omega arith
