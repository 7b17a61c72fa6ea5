-- What a link change raises, and which frame a `Collect` returns.
use Rattle.std.proofs.Common.{◌≡◌, ◌≢◌, ◌<◌, ◌==◌, ◌&&◌, ◌||◌, ◌^◌, ℕ, Bool, true, false, inl, inr, refl, ap, sym, subst, ◌∙◌, arith}
use Rattle.std.proofs.lemmas.Bool.{cond-true, cond-false, ne_eqb, cases_eq}
use Rattle.nic_device.specs.IntrUnit.BitSet.{contains, union, intersection}
use Rattle.nic_device.specs.IntrUnit.Group.{group_bits}
use Rattle.nic_device.specs.IntrUnit.Interrupts.{raised}
use Rattle.nic_device.specs.RegisterFile.Groups.{interrupts_of}
use Rattle.nic_device.specs.IntrUnit.declared.group.Group.TheVariants.{Pf}
use Rattle.nic_device.proofs.IntrUnit.SetLaws.{contains-union, contains-intersection, contains-bits_from_to}
use Rattle.std.proofs.lemmas.Nat.Bits.{bit_at-lt, bit_at-pow_other}
use Rattle.nic_device.specs.RegTable.Rows.{number_of}
use Rattle.nic_device.specs.RegTable.declared.place.Place.{Place}
use Rattle.nic_device.specs.RegTable.declared.rows.RowId.TheVariants.{Eicr, Eims}
use Rattle.nic_device.specs.RegisterFile.Words.{put}
use Rattle.nic_device.specs.RegisterLaws.Sound.{HasShape}
use Rattle.nic_device.proofs.RegisterLaws.Puts.{word_at-put_other}
use Rattle.nic_device.specs.Interrupt.{device_raised, link_cause}
use Rattle.nic_device.specs.Link.{link_set, oldest_collected}
use Rattle.datasheet_laws.specs.FramePrelude.{Done, Idle, Outcome, Registers, beq, gives, place, step_of, word_of}
use Rattle.datasheet_laws.proofs.FramePrelude.{nat_tests, put_stands}
use Rattle.datasheet_laws.specs.Bits.{bit}
use Rattle.datasheet_laws.specs.Link.{RaisesLink, LinkChangesRaise, OldestIsCollected}
use Rattle.datasheet_laws.proofs.FrameBits.{one-has}

-- The word of EICR with a cause.
abbrev with_cause : ℕ → ℕ
with_cause old = union (intersection old (group_bits Pf)) (intersection (2 ^ 20) (group_bits Pf))

eicr-is : (r : Registers) → HasShape r → word_of (device_raised r link_cause) Eicr 0 ≡ with_cause (word_of r Eicr 0)
eicr-is r h =
    word_at-put_other (put r.words (place Eicr 0) (with_cause (word_of r Eicr 0))) (place Eims 0) (place Eicr 0)
    (raised (interrupts_of r Pf) link_cause false).enabled
    (λ e. let rows = ap (λ (p : Place). number_of p.row) e in omega arith)
    ∙ put_stands r (place Eicr 0) (with_cause (word_of r Eicr 0)) h (omega arith)

has-power : (n : ℕ) → contains (2 ^ 20) n ≡ (n == 20)
unfolding contains
has-power n =
    elim (cases_eq n 20) as (λ _. contains (2 ^ 20) n ≡ (n == 20)) [
      | inl same ↦ rw same refl
      | inr other ↦ ap (λ b. b == 1) (bit_at-pow_other 20 n other) ∙ sym (ne_eqb n 20 other)
    ]

in-group : (n : ℕ) → n < 31 → contains (group_bits Pf) n ≡ true
unfolding group_bits
in-group n low = contains-bits_from_to 30 0 n (omega arith) ∙ grind (arith, nat_tests)

and-true : (b : Bool) → (b && true) ≡ b
and-true true = refl
and-true false = refl

in-both : (set n : ℕ) → n < 31 → contains (intersection set (group_bits Pf)) n ≡ contains set n
in-both set n low =
    contains-intersection set (group_bits Pf) n (omega arith) ∙ ap (λ b. contains set n && b) (in-group n low)
    ∙ and-true (contains set n)

has-cause : (old n : ℕ) → n < 31 → contains (with_cause old) n ≡ (contains old n || (n == 20))
has-cause old n low =
    contains-union (intersection old (group_bits Pf)) (intersection (2 ^ 20) (group_bits Pf)) n (omega arith)
    ∙ (λ k. in-both old n low k || (in-both (2 ^ 20) n low ∙ has-power n) k)

or-true : (b : Bool) → (b || true) ≡ true
or-true true = refl
or-true false = refl

or-false : (b : Bool) → (b || false) ≡ b
or-false true = refl
or-false false = refl

raises-20 : (old : ℕ) → bit 20 (with_cause old) ≡ 1
unfolding contains
raises-20 old = one-has 20 (with_cause old) (has-cause old 20 (omega arith) ∙ or-true (contains old 20))

same-bit : (a b : ℕ) → a < 2 → b < 2 → (a == 1) ≡ (b == 1) → a ≡ b
same-bit a b small other same = grind (arith, nat_tests)

keeps-others : (old n : ℕ) → n < 31 → n ≢ 20 → bit n (with_cause old) ≡ bit n old
unfolding contains
keeps-others old n low other =
    same-bit (bit n (with_cause old)) (bit n old) (bit_at-lt (with_cause old) n) (bit_at-lt old n)
    (has-cause old n low ∙ ap (λ b. contains old n || b) (ne_eqb n 20 other) ∙ or-false (contains old n))

beq-same : (a b : Bool) → a ≡ b → beq a b ≡ true
beq-same true true e = refl
beq-same true false e = sym e
beq-same false true e = e
beq-same false false e = refl

beq-other : (a b : Bool) → a ≢ b → beq a b ≡ false
beq-other true true e = absurd (e refl)
beq-other true false e = refl
beq-other false true e = refl
beq-other false false e = absurd (e refl)

pub link_raises : LinkChangesRaise
unfolding step_of
link_raises s h up =
    let done = gives Done (record s { link = up; registers = device_raised s.registers link_cause }) in
    let is-done : s.link ≢ up → link_set s up ≡ done =
    λ other. cond-false (beq s.link up) (gives Idle s) done (beq-other s.link up other) in
    record {
      same = λ same. cond-true (beq s.link up) (gives Idle s) done (beq-same s.link up same);
      reply = λ other. ap (λ (o : Outcome). o.reply) (is-done other);
      changed = λ other. subst (λ (o : Outcome). RaisesLink s up o.state) (sym (is-done other)) (record {
        link = refl;
        raised = ap (bit 20) (eicr-is s.registers h.registers.shape) ∙ raises-20 (word_of s.registers Eicr 0);
        others = λ n low not_20.
            ap (bit n) (eicr-is s.registers h.registers.shape) ∙ keeps-others (word_of s.registers Eicr 0) n low not_20;
      });
    }

pub oldest_out : OldestIsCollected
unfolding step_of
oldest_out s = record {
  none = λ e. ap (oldest_collected s) e;
  oldest = λ queue frame others e. ap (oldest_collected s) e;
}
