-- What reads show of a group's interrupts.
use Rattle.std.proofs.Common.{◌≡◌, ◌≢◌, ℕ, ◌<◌, true, ◌&&◌, ap, sym, ◌∙◌, arith, lit<}
use Rattle.std.proofs.lemmas.Bool.{and_from, le-leb}
use Rattle.nic_device.specs.RegTable.declared.rows.RowId.TheVariants.{Eicr, Eims, Eiac, Eiam, Pvteicr, Pvteims, Pvteiac, Pvteiam}
use Rattle.nic_device.specs.IntrUnit.BitSet.{contains, intersection}
use Rattle.nic_device.proofs.IntrUnit.SetLaws.{contains-bits_from_to, contains-intersection}
use Rattle.nic_device.specs.RegisterFile.Groups.{index_of, interrupts_of}
use Rattle.datasheet_laws.specs.Prelude.{Group, Interrupts, Pf, Registers, State, Vf, group_bits, word_of}
use Rattle.datasheet_laws.specs.Names.{IsGroup, bits_in}
use Rattle.datasheet_laws.specs.Shown.{Bit, bit_of, ShowsThen}
use Rattle.datasheet_laws.proofs.Bits.{and_true}
use Rattle.datasheet_laws.proofs.Words.{by_words, bit_of-words, small}

pub index_small : (g : Group) → IsGroup g → index_of g < 64
index_small Pf h = lit< tt
index_small (Vf v) h = h

-- A group contains the bits that its registers have.
pub own_bit : (g : Group) (bit : ℕ) → bit < bits_in g → contains (group_bits g) bit ≡ true
unfolding group_bits
own_bit Pf bit b =
    contains-bits_from_to 30 0 bit (omega arith)
    ∙ and_from _ _ (le-leb 0 bit (omega arith)) (le-leb bit 30 (omega arith))
own_bit (Vf v) bit b =
    contains-bits_from_to 2 0 bit (omega arith)
    ∙ and_from _ _ (le-leb 0 bit (omega arith)) (le-leb bit 2 (omega arith))

-- A bit of a word, if the group contains it.
pub in_group : (g : Group) (word bit : ℕ) → bit < bits_in g
    → contains (intersection word (group_bits g)) bit ≡ contains word bit
in_group g word bit b =
    contains-intersection word (group_bits g) bit (small g bit b)
    ∙ ap (λ x. contains word bit && x) (own_bit g bit b)
    ∙ and_true (contains word bit)

-- A bit of a group's interrupts.
abbrev pub bit_in : Interrupts → ℕ → Bit
bit_in i bit =
    record {
      cause = contains i.causes bit;
      mask = contains i.enabled bit;
      auto_clear = contains i.auto_clear bit;
      auto_mask = contains i.auto_mask bit;
    }

words-in : (r : Registers) (g : Group) (bit : ℕ) → bit < bits_in g
    → by_words r g bit ≡ bit_in (interrupts_of r g) bit
unfolding contains
words-in r Pf bit b = λ k. record {
  cause = sym (in_group Pf (word_of r Eicr 0) bit b) k;
  mask = sym (in_group Pf (word_of r Eims 0) bit b) k;
  auto_clear = sym (in_group Pf (word_of r Eiac 0) bit b) k;
  auto_mask = sym (in_group Pf (word_of r Eiam 0) bit b) k;
}
words-in r (Vf v) bit b = λ k. record {
  cause = sym (in_group (Vf v) (word_of r Pvteicr v) bit b) k;
  mask = sym (in_group (Vf v) (word_of r Pvteims v) bit b) k;
  auto_clear = sym (in_group (Vf v) (word_of r Pvteiac v) bit b) k;
  auto_mask = sym (in_group (Vf v) (word_of r Pvteiam v) bit b) k;
}

pub bit_of-in : (s : State) (g : Group) → IsGroup g → (bit : ℕ) → bit < bits_in g
    → bit_of s g bit ≡ bit_in (interrupts_of s.registers g) bit
bit_of-in s g h bit b = bit_of-words s g h bit (small g bit b) ∙ words-in s.registers g bit b

-- A group with unchanged interrupts shows what it showed before.
pub bit_stands : (s new : State) (g : Group) → IsGroup g
    → interrupts_of new.registers g ≡ interrupts_of s.registers g → (bit : ℕ) → bit < bits_in g
    → bit_of new g bit ≡ bit_of s g bit
bit_stands s new g h same bit b =
    bit_of-in new g h bit b ∙ ap (λ i. bit_in i bit) same ∙ sym (bit_of-in s g h bit b)

-- A group with new interrupts shows their bits.
pub bit_left : (new : State) (g : Group) (left : Interrupts) → IsGroup g → interrupts_of new.registers g ≡ left
    → (bit : ℕ) → bit < bits_in g → bit_of new g bit ≡ bit_in left bit
bit_left new g left h is bit b = bit_of-in new g h bit b ∙ ap (λ i. bit_in i bit) is

-- The bits that reads show after an access to one group.
pub shows_then : (s new made : State) (g : Group) (bits : ℕ → Bit) → new ≡ made
    → ((other : Group) → other ≢ g → interrupts_of new.registers other ≡ interrupts_of s.registers other)
    → ((bit : ℕ) → bit < bits_in g → bit_of made g bit ≡ bits bit)
    → ShowsThen s new g bits
shows_then s new made g bits is rest then = record {
  own = λ bit b. ap (λ t. bit_of t g bit) is ∙ then bit b;
  others = λ other there apart bit b. bit_stands s new other there (rest other apart) bit b;
}
