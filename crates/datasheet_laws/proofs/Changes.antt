-- What a group shows after a call that changes only its causes and masks.
use Rattle.std.proofs.Common.{◌≡◌, ℕ, ◌<◌, ◌^◌, ◌&&◌, ap, sym, subst, ◌∙◌}
use Rattle.std.specs.Prelude.{bit_and}
use Rattle.nic_device.specs.IntrUnit.Laws.{Bits, Leaves}
use Rattle.nic_device.specs.RegisterFile.Groups.{index_of, interrupts_of, with_interrupts}
use Rattle.nic_device.proofs.RegisterLaws.Settled.{IsSettled}
use Rattle.datasheet_laws.specs.Prelude.{Group, Interrupts, IsSound, State, contains, group_bits, has_bit}
use Rattle.datasheet_laws.proofs.Prelude.{interrupts_of-with_interrupts}
use Rattle.datasheet_laws.specs.Names.{IsGroup, bits_in}
use Rattle.datasheet_laws.specs.Shown.{Bit, bit_of}
use Rattle.datasheet_laws.proofs.Alone.{written}
use Rattle.datasheet_laws.proofs.Bits.{and_true}
use Rattle.datasheet_laws.proofs.Groups.{index_small, own_bit, bit_in, bit_of-in, bit_left}
use Rattle.datasheet_laws.proofs.Words.{small}

-- A bit with this new cause and mask.
abbrev pub bit_by : Bits → ℕ → Bit → Bit
bit_by bits bit b = record b { cause = bits.cause bit; mask = bits.mask bit }

pub bit_then : (i left : Interrupts) (bits : Bits) → Leaves i left bits → (bit : ℕ) → bit < bits_in i.group
    → bit_in left bit ≡ bit_by bits bit (bit_in i bit)
bit_then i left bits x bit b =
    let cause = x.causes bit (small i.group bit b) in
    let mask = x.masks bit (small i.group bit b) in
    λ k. record {
      cause = cause k;
      mask = mask k;
      auto_clear = contains (x.auto_clear k) bit;
      auto_mask = contains (x.auto_mask k) bit;
    }

-- For a bit of the group: a write through a view sets it if and only if both the word and the view contain it.
pub own_written : (g : Group) (word view bit : ℕ) → bit < bits_in g
    → (contains (bit_and word view) bit && contains (group_bits g) bit) ≡ (has_bit bit word && has_bit bit view)
own_written g word view bit b =
    ap (λ x. contains (bit_and word view) bit && x) (own_bit g bit b)
    ∙ and_true (contains (bit_and word view) bit)
    ∙ written word view bit

-- Registers in which these interrupts of a group are stored.
module _ (s t : State) (g : Group) (left : Interrupts) (bits : Bits) (h : IsSound s) (there : IsGroup g)
    (own : left.group ≡ g) (settled : IsSettled left) (reported : left.reported < 2 ^ 32)
    (x : Leaves (interrupts_of s.registers g) left bits) (is : t.registers ≡ with_interrupts s.registers left) where
  abbrev before : Interrupts
  before = interrupts_of s.registers g

  held : interrupts_of (with_interrupts s.registers left) g ≡ left
  held =
      subst (λ g'. interrupts_of (with_interrupts s.registers left) g' ≡ record left {
        auto_clear = (interrupts_of s.registers g').auto_clear;
        auto_mask = (interrupts_of s.registers g').auto_mask;
      }) own
      (interrupts_of-with_interrupts s.registers h.registers.shape left
      (subst (λ g'. index_of g' < 64) (sym own) (index_small g there)) settled.consistent settled.causes
      settled.enabled reported)
      ∙ (λ k. record left { auto_clear = sym x.auto_clear k; auto_mask = sym x.auto_mask k })

  -- Reads of a bit of the group then show them.
  pub shows : (f : Bit → Bit) (bit : ℕ) → bit < bits_in g → bit_by bits bit (bit_in before bit) ≡ f (bit_in before bit)
      → bit_of t g bit ≡ f (bit_of s g bit)
  shows f bit b then =
      bit_left t g left there (ap (λ r. interrupts_of r g) is ∙ held) bit b
      ∙ bit_then before left bits x bit b
      ∙ then
      ∙ ap f (sym (bit_of-in s g there bit b))
