-- What a message step does, depending on which bits are due.
use Rattle.std.proofs.Common.{◌≡◌, ℕ, ◌<◌, Bool, true, false, ◌&&◌, nat_lt, cond, Some, None, refl, ap, sym, ◌∙◌, arith}
use Rattle.std.specs.Prelude.{is_some}
use Rattle.std.proofs.lemmas.Bool.{and_from, and_left, and_parts, lt-ltb, ltb-true}
use Rattle.nic_device.specs.IntrUnit.BitSet.{contains, intersection}
use Rattle.nic_device.specs.IntrUnit.Laws.{IsDueBy}
use Rattle.nic_device.proofs.IntrUnit.SetLaws.{contains-intersection}
use Rattle.datasheet_laws.specs.Prelude.{Group, Interrupts, IsSound, IvarMisc, Pf, State, Vf, has_group, interrupts_of}
use Rattle.datasheet_laws.specs.Prelude.{mode_in, pools_in, queues_of, reported_by, vector_of, word_of}
use Rattle.datasheet_laws.specs.Names.{IsGroup, bits_in}
use Rattle.datasheet_laws.specs.Shown.{Bit, bit_of, read_at}
use Rattle.datasheet_laws.specs.Steps.{HasGroup, IsDue, misc_address, vector_by, pools_of}
use Rattle.datasheet_laws.proofs.Bits.{and_true}
use Rattle.datasheet_laws.proofs.Groups.{bit_of-in}
use Rattle.datasheet_laws.proofs.SettingsShown.{misc_word, pools_there}
use Rattle.datasheet_laws.proofs.Vectors.{vectors, vector_within}
use Rattle.datasheet_laws.proofs.Words.{small}

-- Whether a group exists.

some_if : {A : Type 0} (b : Bool) (x : A) → is_some (cond b (Some x) None) ≡ b
some_if true x = refl
some_if false x = refl

has_pool : (s : State) (v : ℕ) → IsSound s
    → is_some (queues_of (mode_in s.registers) v) ≡ nat_lt v (pools_of s)
has_pool s v h =
    some_if (nat_lt v (pools_in (mode_in s.registers))) _ ∙ ap (nat_lt v) (sym (pools_there s h))

pub has_from : (s : State) (g : Group) → IsSound s → HasGroup s g → has_group s g ≡ true
has_from s Pf h there = refl
has_from s (Vf v) h there =
    and_from _ _ (lt-ltb v s.vfs there.0) (has_pool s v h ∙ lt-ltb v (pools_of s) there.1)

pub has_to : (s : State) (g : Group) → IsSound s → has_group s g ≡ true → HasGroup s g
has_to s Pf h is = tt
has_to s (Vf v) h is =
    let parts = and_parts (nat_lt v s.vfs) (is_some (queues_of (mode_in s.registers) v)) is in
    (ltb-true v s.vfs parts.0, ltb-true v (pools_of s) (sym (has_pool s v h) ∙ parts.1))

pub small_group : (s : State) (g : Group) → IsSound s → HasGroup s g → IsGroup g
small_group s Pf h there = tt
small_group s (Vf v) h there = let few = h.vfs in let below = there.0 in omega arith

-- Which bits are due.

abbrev pub inner : State → Group → Interrupts
inner s g = interrupts_of s.registers g

abbrev pub misc : State → ℕ
misc s = word_of s.registers IvarMisc 0

module _ (s : State) (g : Group) (h : IsSound s) (there : IsGroup g) where
  pub reported_inner : (bit : ℕ) → bit < bits_in g
      → contains (inner s g).reported bit
      ≡ (contains (reported_by s.registers g) bit
      && (contains (inner s g).causes bit && contains (inner s g).enabled bit))
  reported_inner bit b =
      let high = small g bit b in
      contains-intersection (reported_by s.registers g) (intersection (inner s g).causes (inner s g).enabled) bit high
      ∙ ap (λ x. contains (reported_by s.registers g) bit && x)
      (contains-intersection (inner s g).causes (inner s g).enabled bit high)

  cause_inner : (bit : ℕ) → bit < bits_in g → (bit_of s g bit).cause ≡ contains (inner s g).causes bit
  cause_inner bit b = ap (λ (x : Bit). x.cause) (bit_of-in s g there bit b)

  mask_inner : (bit : ℕ) → bit < bits_in g → (bit_of s g bit).mask ≡ contains (inner s g).enabled bit
  mask_inner bit b = ap (λ (x : Bit). x.mask) (bit_of-in s g there bit b)

  vector_inner : (bit : ℕ) → bit < bits_in g
      → vector_by (read_at s misc_address) g bit ≡ vector_of g (misc s) bit
  vector_inner bit b = ap (λ w. vector_by w g bit) (misc_word s h) ∙ vectors (word_of s.registers IvarMisc 0) g bit b

  pub due_inner : (bit vector : ℕ) → IsDue s g bit vector → IsDueBy (inner s g) (misc s) bit vector
  unfolding contains
  due_inner bit vector due = record {
    cause = sym (cause_inner bit due.within) ∙ due.cause;
    mask = sym (mask_inner bit due.within) ∙ due.mask;
    unreported = reported_inner bit due.within ∙ and_left _ _ due.unreported;
    routed = sym (vector_inner bit due.within) ∙ due.routed;
  }

  pub due_outer : (bit vector : ℕ) → IsDueBy (inner s g) (misc s) bit vector → IsDue s g bit vector
  unfolding contains
  due_outer bit vector due =
      let b = vector_within (misc s) g bit vector due.routed in
      let both = and_from _ _ due.cause due.mask in
      record {
        within = b;
        cause = cause_inner bit b ∙ due.cause;
        mask = mask_inner bit b ∙ due.mask;
        unreported = sym (and_true (contains (reported_by s.registers g) bit))
            ∙ ap (λ x. contains (reported_by s.registers g) bit && x) (sym both) ∙ sym (reported_inner bit b)
            ∙ due.unreported;
        routed = vector_inner bit b ∙ due.routed;
      }
