-- The reported marks after events.
use Rattle.std.proofs.Common.{◌≡◌, ℕ, ◌<◌, ◌^◌, Bool, true, false, ◌&&◌, Option, Some, None, refl, ap, sym, ◌∙◌, subst}
use Rattle.nic_device.specs.RegTable.declared.rows.RowId.TheVariants as row
use Rattle.nic_device.specs.IntrUnit.BitSet.{contains, intersection}
use Rattle.nic_device.proofs.IntrUnit.SetLaws.{contains-intersection}
use Rattle.nic_device.specs.RegisterFile.Groups.{index_of, interrupts_of, with_interrupts, reported_by}
use Rattle.nic_device.proofs.RegisterLaws.Settled.{IsSettled}
use Rattle.datasheet_laws.specs.Prelude.{Causes, Group, Interrupts, IsSound, Pf, State, Vf, after_causes, has_bit}
use Rattle.datasheet_laws.specs.Prelude.{is_group, raised, word_of}
use Rattle.datasheet_laws.proofs.Prelude.{cond_both, interrupts_of-with_interrupts}
use Rattle.datasheet_laws.specs.Marks.{is_reported}
use Rattle.datasheet_laws.specs.Names.{IsGroup, bits_in}
use Rattle.datasheet_laws.specs.Shown.{Bit, bit_of}
use Rattle.datasheet_laws.proofs.Groups.{index_small, bit_of-in, bit_left}
use Rattle.datasheet_laws.proofs.Steps.{reported_inner}
use Rattle.datasheet_laws.proofs.Words.{bit_of-words, small}

-- The cause and the mask of a marked bit are 1.
pending : (t : State) → IsSound t → (g : Group) → IsGroup g → (bit : ℕ) → bit < bits_in g → is_reported t g bit ≡ true
    → ((bit_of t g bit).cause && (bit_of t g bit).mask) ≡ true
unfolding contains
pending t h Pf there bit b is =
    ap (λ (x : Bit). x.cause && x.mask) (bit_of-words t Pf there bit (small Pf bit b))
    ∙ sym (contains-intersection (word_of t.registers row.Eicr 0) (word_of t.registers row.Eims 0) bit (small Pf bit b))
    ∙ (h.registers.reported Pf (index_small Pf there)).member bit is
pending t h (Vf v) there bit b is =
    ap (λ (x : Bit). x.cause && x.mask) (bit_of-words t (Vf v) there bit (small (Vf v) bit b))
    ∙ sym (contains-intersection (word_of t.registers row.Pvteicr v) (word_of t.registers row.Pvteims v) bit
    (small (Vf v) bit b))
    ∙ (h.registers.reported (Vf v) (index_small (Vf v) there)).member bit is

cut : (x y : Bool) → (x ≡ true → y ≡ true) → x ≡ (x && y)
cut true y h = sym (h refl)
cut false y h = refl

-- A bit is marked afterwards if it was marked, and its cause and its mask read 1.
abbrev pub Keeps : (s new : State) (g : Group) (bit : ℕ) → Type 0
Keeps s new g bit = is_reported new g bit
    ≡ (is_reported s g bit && ((bit_of new g bit).cause && (bit_of new g bit).mask))

module _ (s new : State) (h : IsSound s) (then : IsSound new) (g : Group) (there : IsGroup g) (bit : ℕ)
    (b : bit < bits_in g) where
  -- A bit keeps its mark if the marks are unchanged.
  pub same_mark : is_reported new g bit ≡ is_reported s g bit → Keeps s new g bit
  same_mark same =
      same ∙ cut (is_reported s g bit) _ (λ is. pending new then g there bit b (same ∙ is))

  pub same_marks : reported_by new.registers g ≡ reported_by s.registers g → Keeps s new g bit
  same_marks same = same_mark (ap (λ n. has_bit bit n) same)

  -- A mark, by the group's interrupts.
  pub own_mark : (t : State) → IsSound t → contains (interrupts_of t.registers g).reported bit ≡ is_reported t g bit
  unfolding contains
  own_mark t sound =
      reported_inner t g sound there bit b
      ∙ ap (λ x. is_reported t g bit && x) (sym (ap (λ (x : Bit). x.cause && x.mask) (bit_of-in t g there bit b)))
      ∙ sym (cut (is_reported t g bit) _ (λ is. pending t sound g there bit b is))

  pub same_interrupts : interrupts_of new.registers g ≡ interrupts_of s.registers g → Keeps s new g bit
  same_interrupts same =
      same_mark (sym (own_mark new then) ∙ ap (λ (i : Interrupts). contains i.reported bit) same ∙ own_mark s h)

  -- The marks combined with other causes and masks.
  pub settled_with : (marked : ℕ) (mark : Bool) → contains marked bit ≡ mark → (left : Interrupts)
      → interrupts_of new.registers g ≡ left
      → left.reported ≡ intersection marked (intersection left.causes left.enabled)
      → is_reported new g bit ≡ (mark && ((bit_of new g bit).cause && (bit_of new g bit).mask))
  settled_with marked mark has left is reported =
      let high = small g bit b in
      sym (own_mark new then)
      ∙ ap (λ (i : Interrupts). contains i.reported bit) is
      ∙ ap (λ set. contains set bit) reported
      ∙ contains-intersection marked (intersection left.causes left.enabled) bit high
      ∙ ap (λ x. contains marked bit && x) (contains-intersection left.causes left.enabled bit high)
      ∙ (λ k. has k && sym (ap (λ (x : Bit). x.cause && x.mask) (bit_left new g left there is bit b)) k)

  settled_marks : (left : Interrupts) → interrupts_of new.registers g ≡ left
      → left.reported ≡ intersection (interrupts_of s.registers g).reported (intersection left.causes left.enabled)
      → Keeps s new g bit
  settled_marks left is reported = settled_with (interrupts_of s.registers g).reported _ (own_mark s h) left is reported

  -- A bit keeps its mark if the device raised causes.
  pub raised_marks : (o : Option Causes)
      → interrupts_of new.registers g ≡ after_causes o g (interrupts_of s.registers g) → Keeps s new g bit
  raised_marks None is = same_interrupts is
  raised_marks (Some c) is =
      let i = interrupts_of s.registers g in
      cond_both (is_group c.group g) (raised i c.bits false) i
      (λ j. interrupts_of new.registers g ≡ j → Keeps s new g bit)
      (λ own e. settled_marks (raised i c.bits false) e refl) (λ other e. same_interrupts e) is

  -- The marks after the interrupts were stored in the registers.
  pub put_with : (marked : ℕ) (mark : Bool) → contains marked bit ≡ mark → (left : Interrupts) → left.group ≡ g
      → IsSettled left → left.reported < 2 ^ 32 → new.registers ≡ with_interrupts s.registers left
      → left.reported ≡ intersection marked (intersection left.causes left.enabled)
      → is_reported new g bit ≡ (mark && ((bit_of new g bit).cause && (bit_of new g bit).mask))
  put_with marked mark has left own settled few is reported =
      let held = interrupts_of-with_interrupts s.registers h.registers.shape left
      (subst (λ g'. index_of g' < 64) (sym own) (index_small g there)) settled.consistent settled.causes
      settled.enabled few in
      settled_with marked mark has _ (ap (λ r. interrupts_of r g) is
      ∙ subst (λ g'. interrupts_of (with_interrupts s.registers left) g' ≡ record left {
        auto_clear = (interrupts_of s.registers g').auto_clear;
        auto_mask = (interrupts_of s.registers g').auto_mask;
      }) own held) reported

  pub put_marks : (left : Interrupts) → left.group ≡ g → IsSettled left → left.reported < 2 ^ 32
      → new.registers ≡ with_interrupts s.registers left
      → left.reported ≡ intersection (interrupts_of s.registers g).reported (intersection left.causes left.enabled)
      → Keeps s new g bit
  put_marks = put_with (interrupts_of s.registers g).reported _ (own_mark s h)
