-- Where a fetched slot is reported.
use Rattle.std.proofs.Common.{cond, ◌≡◌, ◌^◌, ◌+◌, ◌*◌, ◌/◌, ℕ, Bool, true, false, refl, ap, sym, ◌∙◌, subst, inl, inr, Some, None, Result, Ok, Err}
use Rattle.std.specs.Prelude.{⊤, unwrap_or}
use Rattle.nic_device.specs.TxRing.Fetch as tx
use Rattle.device_laws.specs.Prelude.{Fetched, RingFault, State, Tdwbah, Tdwbal, Tx, descriptor_address, has_bit}
use Rattle.device_laws.specs.Prelude.{ring_of, transmit_queue_of, word_of}
use Rattle.device_laws.proofs.Prelude.{fetched_by, takes_slot}
use Rattle.device_laws.specs.Replies.{report_of}

ReportsAt : ℕ → Result Fetched RingFault → Type 0
ReportsAt at (Ok f) = (address : ℕ) → f.back ≡ Some address → address ≡ at
ReportsAt at (Err fault) = ⊤

answered_at : (b : Bool) (at address : ℕ) → cond b (Some at) None ≡ Some address → address ≡ at
answered_at true at address is = cc
answered_at false at address is = cc

either_at : (b : Bool) (x y : ℕ) → unwrap_or (cond b (Some x) None) y ≡ cond b x y
either_at true x y = refl
either_at false x y = refl

pub reports_at : (s : State) (queue : ℕ) (f : Fetched) → (fetched_by s queue).answer ≡ Ok f
    → (address : ℕ) → f.back ≡ Some address → address ≡ report_of s.registers queue
unfolding ReportsAt
reports_at s queue f is =
    let r = s.registers in
    let ring = ring_of r Tx queue in
    let at = unwrap_or (transmit_queue_of r queue).writeback (descriptor_address ring ring.head) in
    let reported = elim (takes_slot _ _ _ _ f is).done as (λ _. ReportsAt at (Ok f)) [
      | inl context ↦
          subst (ReportsAt at) (sym (ap (λ (o : tx.Outcome). o.answer) context.1) ∙ is) (λ address none. cc)
      | inr sends ↦
          subst (ReportsAt at) (sym (ap (λ (o : tx.Outcome). o.answer) sends.2) ∙ is) (answered_at _ at)
    ] in
    λ address back. reported address back
    ∙ either_at (has_bit 0 (word_of r Tdwbal queue))
    (word_of r Tdwbah queue * 2 ^ 32 + 4 * (word_of r Tdwbal queue / 4)) (descriptor_address ring ring.head)
