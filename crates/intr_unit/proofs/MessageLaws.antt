-- Lemmas about which bit a message reports, and what the message does to each bit.
use Rattle.std.proofs.Common.{◌≡◌, ℕ, ◌<◌, Bool, false, refl, sym, ap, ◌∙◌, arith}
use Rattle.std.proofs.Common.{inl, inr}
use Rattle.std.specs.Prelude.{Option, Some, None, is_some}
use Rattle.std.specs.Option.{option_and_then}
use Rattle.std.proofs.lemmas.Bool.{false≢true, cases_lt}
use Rattle.intr_unit.specs.BitSet.{union, intersection, difference, only}
use Rattle.intr_unit.specs.Group.{vector_of}
use Rattle.intr_unit.specs.Interrupts.{Interrupts, auto_masked, is_due, next_bit, after_telling}
use Rattle.intr_unit.specs.Interrupts.{after_message_of}
use Rattle.intr_unit.specs.Laws.{IsMessageOf, MessagesTellDueBits, Leaves, reported_bits, MessagesChangeBits}
use Rattle.intr_unit.proofs.SetLaws.{contains-union, contains-intersection, contains-difference, contains-only}
use Rattle.intr_unit.proofs.SetLaws.{contains-acting}
use Rattle.intr_unit.proofs.Due.{first_due, none_due, unreported, pending, routed, next_bit-of}
use Rattle.intr_unit.proofs.BitLaws.{leaves-settled}

tells-of : (s : Interrupts) (misc vector : ℕ) (next : Option ℕ) → next_bit s misc ≡ next →
    option_and_then (vector_of s.group misc) next ≡ Some vector → (bit : ℕ) × IsMessageOf s misc vector bit
tells-of s misc vector None at e = cc
tells-of s misc vector (Some bit) at e =
    let first = first_due s misc bit at in
    let ready = pending s misc bit first.passes in (
      bit,
      record {
        within = first.high;
        due = record {
          cause = ready.cause;
          mask = ready.mask;
          unreported = unreported s misc bit first.passes;
          routed = e;
        };
        lowest = λ other h. elim (cases_lt other bit) [
          | inl below ↦ absurd (false≢true (sym (first.before other (omega arith) below) ∙ h))
          | inr above ↦ above
        ];
      },
    )

idle-of : (s : Interrupts) (misc bit : ℕ) (next : Option ℕ) → next_bit s misc ≡ next →
    option_and_then (vector_of s.group misc) next ≡ None → bit < 32 → is_due s misc bit ≡ false
idle-of s misc bit None at e h = none_due s misc bit at h
idle-of s misc bit (Some reported) at e h =
    absurd (false≢true (sym (ap is_some e) ∙ routed s misc reported (first_due s misc reported at).passes))

pub messages_tell : MessagesTellDueBits
messages_tell = record {
  reported = λ s misc vector e. tells-of s misc vector (next_bit s misc) refl e;
  idle = λ s misc bit e h. idle-of s misc bit (next_bit s misc) refl e h;
}

-- ---- what a message does

leaves-telling : (s : Interrupts) (eiame : Bool) (chosen : ℕ) →
    Leaves s (after_telling s eiame chosen) (reported_bits s eiame chosen)
leaves-telling s eiame chosen =
    leaves-settled s (difference s.causes (intersection (only chosen) s.auto_clear))
    (difference s.enabled (auto_masked s (only chosen) eiame)) (union s.reported (only chosen))
    (reported_bits s eiame chosen)
    (λ bit h. simp (contains-difference, contains-intersection, contains-only))
    (λ bit h. simp (contains-difference, contains-acting, contains-only))
    (λ bit h. simp (contains-union, contains-only))

idle-leaves : (s : Interrupts) (eiame : Bool) (misc : ℕ) (next : Option ℕ) → next_bit s misc ≡ next →
    option_and_then (vector_of s.group misc) next ≡ None → after_message_of s eiame next ≡ s
idle-leaves s eiame misc None at e = refl
idle-leaves s eiame misc (Some bit) at e =
    absurd (false≢true (sym (ap is_some e) ∙ routed s misc bit (first_due s misc bit at).passes))

pub messages_change : MessagesChangeBits
messages_change = record {
  reported = λ s eiame misc vector chosen message.
      rw (next_bit-of s misc vector chosen message) (leaves-telling s eiame chosen);
  idle = λ s eiame misc e. idle-leaves s eiame misc (next_bit s misc) refl e;
}
