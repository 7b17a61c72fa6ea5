-- A message step's reply depends on which bits are due, and it reports the lowest.
use Rattle.std.proofs.Common.{◌≡◌, ◌≢◌, ℕ, ◌<◌, ◌==◌, Bool, true, false, not, ◌&&◌, cond, Option, Some, None, refl, ap, sym, ◌∙◌, subst, arith, inl, inr}
use Rattle.std.specs.Prelude.{is_some, IsFalse}
use Rattle.std.proofs.lemmas.Bool.{cases_lt, false_from_ne_true}
use Rattle.std.proofs.lemmas.Option.{same_Some}
use Rattle.nic_device.specs.IntrUnit.Interrupts.{Interrupts, after_message}
use Rattle.nic_device.specs.IntrUnit.Laws.{IsMessageOf, Leaves, reported_bits}
use Rattle.nic_device.proofs.IntrUnit.Due.{is_due-by, next_bit-of, unreported, pending, routed}
use Rattle.nic_device.proofs.IntrUnit.MessageLaws.{messages_tell}
use Rattle.nic_device.specs.RegisterFile.Groups.{interrupts_of, with_interrupts, message_of, message_made, masks_by_message}
use Rattle.nic_device.specs.Interrupt.{has_group, message_reply, messaged}
use Rattle.nic_device.specs.declared.event.Event.TheVariants as event
use Rattle.device_laws.proofs.Messages.{due_reported}
use Rattle.device_laws.proofs.StandingRest.{message_rest}
use Rattle.datasheet_laws.specs.Prelude.{Group, Idle, IsSound, IvarMisc, Message, NoGroup, Outcome, State, after}
use Rattle.datasheet_laws.specs.Prelude.{contains, gives, is_stopped, step_of, vector_of, word_of}
use Rattle.datasheet_laws.specs.Names.{IsGroup, bits_in}
use Rattle.datasheet_laws.specs.Shown.{Bit, bit_of, reads_one}
use Rattle.datasheet_laws.specs.Steps.{HasGroup, IsDue, NoneIsDue, NoneIsDueBelow, Tells, MessageStepsTellWhatIsDue}
use Rattle.datasheet_laws.specs.Steps.{control_address, reported_bit}
use Rattle.datasheet_laws.proofs.Bits.{and_true, and_false}
use Rattle.datasheet_laws.proofs.Groups.{bit_in, bit_of-in, bit_stands}
use Rattle.datasheet_laws.proofs.SettingsShown.{stops}
use Rattle.datasheet_laws.proofs.Steps.{has_from, has_to, small_group, due_inner, due_outer}
use Rattle.datasheet_laws.proofs.Words.{general_bit, small}

-- A message step for a group that doesn't exist.

absent : (s : State) (g : Group) → has_group s g ≡ false → step_of s (event.IntStep g) ≡ gives NoGroup s
unfolding step_of
absent s g none = ap (λ b. cond b (messaged s g) (gives NoGroup s)) none

pub there : (s : State) (g : Group) → has_group s g ≡ true → step_of s (event.IntStep g) ≡ messaged s g
unfolding step_of
there s g is = ap (λ b. cond b (messaged s g) (gives NoGroup s)) is

a_reply : (g : Group) (o : Option ℕ) → message_reply g o ≢ NoGroup
a_reply g None e = cc
a_reply g (Some vector) e = cc

an_answer : (s : State) (g : Group) (b : Bool) (t : State) (o : Option ℕ)
    → (cond b (gives Idle s) (gives (message_reply g o) t)).reply ≢ NoGroup
an_answer s g true t o e = a_reply g None e
an_answer s g false t o e = a_reply g o e

stopped : (s : State) (g : Group) → is_stopped s.registers ≡ true → messaged s g ≡ gives Idle s
stopped s g is =
    ap (λ b. cond b (gives Idle s)
    (gives (message_reply g (message_of s.registers g)) (record s { registers = message_made s.registers g }))) is

-- If no message is sent, nothing changes.

unmade : (s : State) (g : Group) → message_of s.registers g ≡ None → message_made s.registers g ≡ s.registers
unmade s g none =
    ap (λ o. cond (is_some o) (with_interrupts s.registers
    (after_message (interrupts_of s.registers g) (masks_by_message s.registers) (word_of s.registers IvarMisc 0)))
    s.registers) none

either : (b : Bool) (o : Outcome) → cond b o o ≡ o
either true o = refl
either false o = refl

no_message : (s : State) (g : Group) → message_of s.registers g ≡ None → messaged s g ≡ gives Idle s
no_message s g none =
    (λ k. cond (is_stopped s.registers) (gives Idle s)
    (gives (message_reply g (none k)) (record s { registers = unmade s g none k })))
    ∙ either (is_stopped s.registers) (gives Idle s)

none_due : (s : State) (g : Group) → IsSound s → IsGroup g → NoneIsDue s g → (o : Option ℕ)
    → message_of s.registers g ≡ o → o ≡ None
none_due s g h small_g none None is = refl
none_due s g h small_g none (Some vector) is =
    let reported = messages_tell.reported (interrupts_of s.registers g) (word_of s.registers IvarMisc 0) vector is in
    absurd (none reported.0 vector (due_outer s g h small_g reported.0 vector reported.1.due))

-- The reported bit.

-- A due bit has a vector.
due_vector : (o : Option ℕ) → is_some o ≡ true → (v : ℕ) × (o ≡ Some v)
due_vector None is = cc
due_vector (Some v) is = (v, refl)

pub message_is : (s : State) (g : Group) (h : IsSound s) (small_g : IsGroup g) (bit vector : ℕ) → IsDue s g bit vector
    → NoneIsDueBelow s g bit → IsMessageOf (interrupts_of s.registers g) (word_of s.registers IvarMisc 0) vector bit
message_is s g h small_g bit vector due none = record {
  within = small g bit due.within;
  due = due_inner s g h small_g bit vector due;
  lowest = λ other is. elim (cases_lt other bit) [
    | inl below ↦
        let i = interrupts_of s.registers g in
        let w = word_of s.registers IvarMisc 0 in
        let both = pending i w other is in
        let has = due_vector (vector_of g w other) (routed i w other is) in
        absurd (none other has.0 below (due_outer s g h small_g other has.0 (record {
          cause = both.cause;
          mask = both.mask;
          unreported = unreported i w other is;
          routed = has.1;
        })))
    | inr above ↦ above
  ];
}

same_bit : (i : Interrupts) (w vector other bit reported : ℕ) → IsMessageOf i w vector bit →
    IsMessageOf i w other reported
    → bit ≡ reported
same_bit i w vector other bit reported a b =
    same_Some _ _ (sym (next_bit-of i w vector bit a) ∙ next_bit-of i w other reported b)

reported_or_kept : (b eiame : Bool) (x : Bit)
    → record x { cause = x.cause && not (b && x.auto_clear); mask = x.mask && not (eiame && b && x.auto_mask) }
    ≡ cond b (record x { cause = x.cause && not x.auto_clear; mask = x.mask && not (eiame && x.auto_mask) }) x
reported_or_kept true eiame x = λ k. record x {
  cause = x.cause && not x.auto_clear;
  mask = x.mask && not (and_true eiame k && x.auto_mask);
}
reported_or_kept false eiame x =
    let mask = ap (λ y. x.mask && not (y && x.auto_mask)) (and_false eiame) ∙ and_true x.mask in
    λ k. record x { cause = and_true x.cause k; mask = mask k }

left_bit : (i j : Interrupts) (eiame : Bool) (bit other : ℕ) → Leaves i j (reported_bits i eiame bit) → other < 32
    → bit_in j other
    ≡ cond (other == bit) (record (bit_in i other) {
      cause = contains i.causes other && not (contains i.auto_clear other);
      mask = contains i.enabled other && not (eiame && contains i.auto_mask other);
    }) (bit_in i other)
left_bit i j eiame bit other left high =
    (λ k. record {
      cause = left.causes other high k;
      mask = left.masks other high k;
      auto_clear = contains (left.auto_clear k) other;
      auto_mask = contains (left.auto_mask k) other;
    })
    ∙ reported_or_kept (other == bit) eiame (bit_in i other)

-- The reported bit as reads show it.
shown : (s : State) (g : Group) → IsGroup g → (bit other : ℕ) → other < bits_in g
    → cond (other == bit) (record (bit_in (interrupts_of s.registers g) other) {
      cause =
          contains (interrupts_of s.registers g).causes other
          && not (contains (interrupts_of s.registers g).auto_clear other);
      mask =
          contains (interrupts_of s.registers g).enabled other
          && not (masks_by_message s.registers && contains (interrupts_of s.registers g).auto_mask other);
    }) (bit_in (interrupts_of s.registers g) other)
    ≡ cond (other == bit) (reported_bit s (bit_of s g other)) (bit_of s g other)
shown s g small_g bit other b =
    let same = sym (bit_of-in s g small_g other b) in
    let eiame = sym (general_bit s 30 (omega arith)) in
    λ k. cond (other == bit) (record (same k) {
      cause = (same k).cause && not (same k).auto_clear;
      mask = (same k).mask && not (eiame k && (same k).auto_mask);
    }) (same k)

tells : (s : State) (g : Group) → IsSound s → HasGroup s g → IsFalse (reads_one s control_address 2)
    → (bit vector : ℕ) → IsDue s g bit vector → NoneIsDueBelow s g bit → Tells s g bit vector
tells s g h is runs bit vector due none =
    let i = interrupts_of s.registers g in
    let w = word_of s.registers IvarMisc 0 in
    let small_g = small_group s g h is in
    let m = message_is s g h small_g bit vector due none in
    let sent = due_reported s h (sym (stops s) ∙ runs) g (has_from s g h is) bit m.within
    (is_due-by i w bit vector m.due) in
    let same = same_bit i w vector sent.vector bit sent.bit m sent.lowest in
    let one : sent.vector ≡ vector = same_Some _ _ (sym sent.lowest.due.routed ∙ ap (vector_of g w) (sym same)
    ∙ m.due.routed) in
    let left = subst (λ n. Leaves i (interrupts_of (after s (event.IntStep g)).registers g)
    (reported_bits i (masks_by_message s.registers) n)) (sym same) sent.leaves in
    record {
      reply = sent.reply ∙ ap (Message g) one;
      shows = record {
        own = λ other b. bit_of-in (after s (event.IntStep g)) g small_g other b
            ∙ left_bit i _ (masks_by_message s.registers) bit other left (small g other b)
            ∙ shown s g small_g bit other b;
        others = λ other small_other apart n b. bit_stands s (after s (event.IntStep g)) other small_other
            ((message_rest s g).groups other apart) n b;
      };
    }

pub steps : MessageStepsTellWhatIsDue
steps s h g = record {
  absent = λ none. absent s g (false_from_ne_true (has_group s g) (λ t. none (has_to s g h t)));
  there = λ is e. an_answer s g (is_stopped s.registers) _ _
      (sym (ap (λ (o : Outcome). o.reply) (there s g (has_from s g h is))) ∙ e);
  stopped = λ is t. there s g (has_from s g h is) ∙ stopped s g (sym (stops s) ∙ t);
  quiet = λ is none. there s g (has_from s g h is)
      ∙ no_message s g (none_due s g h (small_group s g h is) none (message_of s.registers g) refl);
  due = λ is runs bit vector due none. tells s g h is runs bit vector due none;
}
