-- The device raises causes 17, 18 and 20 by itself.
use Rattle.std.proofs.Common.{◌≡◌, ◌≢◌, ℕ, ◌^◌, ◌==◌, false, cond, Option, Some, None, refl, ap, sym, ◌∙◌, inl, inr}
use Rattle.std.proofs.lemmas.Nat.Bits.{bit_at-pow_same, bit_at-pow_other}
use Rattle.nic_device.specs.declared.event.Event.TheVariants as event
use Rattle.nic_device.specs.declared.event.Why.{Why}
use Rattle.device_laws.specs.Raising.{Causes, IsOfTheDevice, device_cause, raises, raised_dropped, raised_arrived, raised_linked, after_causes}
use Rattle.datasheet_laws.specs.Prelude.{Block, Done, Dropped, Event, Full, Group, IsSound, Pf, Reply, State, after}
use Rattle.datasheet_laws.specs.Prelude.{contains, interrupts_of, is_group, raised, reply_to}
use Rattle.datasheet_laws.proofs.Prelude.{cases_eq, eq-eqb, events_raise, false_from_ne_true, is_group-same, ne_eqb}
use Rattle.datasheet_laws.specs.Queues.{raised_bit}
use Rattle.datasheet_laws.specs.Raised.{Raises, RaisesNone, DeviceRaisesByNumber}
use Rattle.datasheet_laws.proofs.Causes.{set_bit}
use Rattle.datasheet_laws.proofs.Groups.{bit_in, bit_of-in, bit_left, bit_stands}
use Rattle.datasheet_laws.proofs.Raising.{only_cause}

-- The set that contains one bit.
one_bit : (n bit : ℕ) → contains (2 ^ n) bit ≡ (bit == n)
unfolding contains
one_bit n bit =
    elim (cases_eq bit n) as (λ _. contains (2 ^ n) bit ≡ (bit == n)) [
      | inl same ↦ ap (contains (2 ^ n)) same ∙ ap (λ d. d == 1) (bit_at-pow_same n) ∙ sym (eq-eqb bit n same)
      | inr apart ↦ ap (λ d. d == 1) (bit_at-pow_other n bit apart) ∙ sym (ne_eqb bit n apart)
    ]

module _ (s : State) (h : IsSound s) (e : Event Block) (of : IsOfTheDevice e) where
  -- Raising these causes raises the cause with this number.
  by : (causes : Option Causes) → raises s e (reply_to s e) ≡ causes → (g : Group)
      → interrupts_of (after s e).registers g ≡ after_causes causes g (interrupts_of s.registers g)
  by causes is g = events_raise s h e of g ∙ ap (λ o. after_causes o g (interrupts_of s.registers g)) is

  number : (n : ℕ) → raises s e (reply_to s e) ≡ Some (device_cause (2 ^ n)) → Raises s (after s e) n
  number n is =
      let i = interrupts_of s.registers Pf in
      record {
        own = λ bit b. bit_left (after s e) Pf (raised i (2 ^ n) false) tt (by _ is Pf) bit b
            ∙ set_bit i (2 ^ n) false bit b ∙ only_cause (contains (2 ^ n) bit) (bit_in i bit)
            ∙ (λ k. raised_bit (one_bit n bit k) (sym (bit_of-in s Pf tt bit b) k));
        others = λ other there apart bit b. bit_stands s (after s e) other there (by _ is other
            ∙ ap (λ b. cond b (raised (interrupts_of s.registers other) (2 ^ n) false)
            (interrupts_of s.registers other))
            (false_from_ne_true (is_group Pf other) (λ t. apart (sym (is_group-same Pf other t))))) bit b;
      }

  none : raises s e (reply_to s e) ≡ None → RaisesNone s (after s e)
  none is g there bit b = bit_stands s (after s e) g there (by None is g) bit b

unmissed : (why : Why) → why ≢ Full → raised_dropped why ≡ None
unmissed Full apart = absurd (apart refl)
unmissed other apart = refl

let_in : (r : Reply Block) → r ≢ Dropped Full → raised_arrived r ≡ None
let_in (Dropped why) apart = unmissed why (λ e. apart (ap Dropped e))
let_in other apart = refl

unchanged : (r : Reply Block) → r ≢ Done → raised_linked r ≡ None
unchanged Done apart = absurd (apart refl)
unchanged other apart = refl

pub by_number : DeviceRaisesByNumber
by_number s h = record {
  missed = λ frame is. number s h (event.Arrive frame) tt 17 (ap raised_arrived is);
  unmissed = λ frame apart. none s h (event.Arrive frame) tt (let_in (reply_to s (event.Arrive frame)) apart);
  received = λ queue fault is. number s h event.RxStep tt 18 (ap (raises s event.RxStep) is);
  transmitted = λ queue at fault is. number s h (event.TxStep queue) tt 18 (ap (raises s (event.TxStep queue)) is);
  changed = λ up is. number s h (event.Link up) tt 20 (ap raised_linked is);
  unchanged = λ up apart. none s h (event.Link up) tt (unchanged (reply_to s (event.Link up)) apart);
}
