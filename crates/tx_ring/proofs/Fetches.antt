-- Lemmas about the possible results of fetching a slot.
use Rattle.std.proofs.Common.{◌≡◌, ◌≢◌, ℕ, ◌+◌, ◌<◌, ◌⊎◌, true, length, List, refl, arith, Option, Some, None, Ok, Err, inl, inr}
use Rattle.std.specs.Prelude.{not, nat_lt, IsTrue, IsFalse}
use Rattle.std.proofs.lemmas.Bool.{cond_both, eqb-true, eq-eqb, ne_eqb}
use Rattle.std.proofs.lemmas.Bool.Decides.{nat_tests}
use Rattle.dma_arena.specs.Memory.{Memory, is_lent}
use Rattle.dma_ring.specs.declared.ring.Ring.{Ring}
use Rattle.dma_ring.specs.declared.fault.RingFault.{RingFault}
use Rattle.dma_ring.specs.declared.fault.RingFault.TheVariants.{Outside, Offload, Legacy, TooLong, NotLent, UnknownType}
use Rattle.dma_ring.specs.Ring.{slots_of, is_outside, next_of}
use Rattle.tx_ring.specs.declared.tx.Tx.{Tx}
use Rattle.tx_ring.specs.declared.fetched.Fetched.{Fetched}
use Rattle.tx_ring.specs.Report.{head_address, can_report, report_address}
use Rattle.tx_ring.specs.Fetch.{Outcome, descriptor_of, command_in, buffer_in, data_fault_of, descriptor_fault_of, fault_of, is_context, is_data, CanSend, fault_outcome, context_outcome, data_outcome, outcome_of, fetch_of}
use Rattle.tx_ring.specs.Laws.{command_at, HasDescriptor, HasContext, HasData, FaultChangesNothing, SlotLaw}

-- A data descriptor has a fault, or it can be sent.
data_cases : (P : Option RingFault → Type 0) (m : Memory) (r : Ring) (tx : Tx) (staged : ℕ) (descriptor : List ℕ)
    → ((fault : RingFault) → P (Some fault)) → (CanSend m r tx staged descriptor → P None)
    → P (data_fault_of m r tx staged descriptor)
unfolding data_fault_of
data_cases P m r tx staged descriptor faults sends =
    let c = command_in descriptor in
    cond_both c.offload _ _ P (λ offload. faults Offload) (λ no_offload.
    cond_both (nat_lt tx.limit (staged + c.len)) _ _ P (λ long. faults TooLong) (λ room.
    cond_both (not (is_lent m (buffer_in descriptor) c.len)) _ _ P (λ absent. faults (NotLent (buffer_in descriptor)))
    (λ buffer.
    cond_both (not (can_report m r tx c.report)) _ _ P (λ absent. faults (NotLent (report_address r tx))) (λ report.
    sends (record {
      no_offload = no_offload;
      room = grind (arith, nat_tests);
      buffer = grind (arith, nat_tests);
      report =
          grind (arith, nat_tests);
    })))))

-- A descriptor has a fault, is a context descriptor, or is a data descriptor that can be sent.
type_cases : (P : Option RingFault → Type 0) (m : Memory) (r : Ring) (tx : Tx) (staged : ℕ) (descriptor : List ℕ)
    → ((fault : RingFault) → P (Some fault))
    → (IsTrue (command_in descriptor).extended → (command_in descriptor).kind ≡ 2 → P None)
    → (IsTrue (command_in descriptor).extended → (command_in descriptor).kind ≡ 3 → CanSend m r tx staged descriptor
    → P None)
    → P (descriptor_fault_of m r tx staged descriptor)
unfolding descriptor_fault_of
type_cases P m r tx staged descriptor faults contexts sends =
    let c = command_in descriptor in
    cond_both (not c.extended) _ _ P (λ legacy. faults Legacy) (λ extended.
    let e : c.extended ≡ true = grind (arith, nat_tests) in
    cond_both (is_context c) _ _ P (λ context. contexts e (eqb-true _ _ context)) (λ no_context.
    cond_both (is_data c) _ _ P (λ full. data_cases P m r tx staged descriptor faults (sends e (eqb-true _ _ full)))
    (λ unknown. faults UnknownType)))

-- A data descriptor without a fault can be sent.

abbrev Passes : Memory → Ring → Tx → ℕ → List ℕ → Option RingFault → Type 0
Passes m r tx staged descriptor fault = fault ≡ None → CanSend m r tx staged descriptor

pub can_send : (m : Memory) (r : Ring) (tx : Tx) (staged : ℕ) (descriptor : List ℕ)
    → descriptor_fault_of m r tx staged descriptor ≡ None → (command_in descriptor).kind ≢ 2
    → CanSend m r tx staged descriptor
can_send m r tx staged descriptor none other =
    type_cases (Passes m r tx staged descriptor) m r tx staged descriptor
    (λ fault is. absurd (cc)) (λ extended context is. absurd (other context)) (λ extended full sent is. sent) none

-- The result is a fault, a completed context descriptor, or a completed data descriptor.
pub fetch_cases : (P : Outcome → Type 0) (m : Memory) (staged : List ℕ) (r : Ring) (tx : Tx)
    → ((fault : RingFault) → P (fault_outcome m staged fault))
    → (HasContext m r → P (context_outcome m staged r))
    → (HasData m r → CanSend m r tx (length staged) (descriptor_of m r)
    → P (data_outcome m staged r tx (descriptor_of m r)))
    → P (fetch_of m staged r tx)
unfolding fetch_of fault_of
fetch_cases P m staged r tx faults contexts sends =
    let Q : Option RingFault → Type 0 = λ fault. P (outcome_of m staged r tx fault) in
    cond_both (is_outside r) _ _ Q (λ out. faults Outside) (λ inside.
    cond_both (not (is_lent m (head_address r) 16)) _ _ Q (λ absent. faults (NotLent (head_address r))) (λ here.
    let at : HasDescriptor m r = record { inside = inside; lent = grind (arith, nat_tests) } in
    type_cases Q m r tx (length staged) (descriptor_of m r) faults
    (λ extended two. rw (eq-eqb (command_at m r).kind 2 two)
    (contexts (record { descriptor = at; extended = extended; type = two })))
    (λ extended three sent.
    let other : (command_at m r).kind ≢ 2 = omega arith in
    rw (ne_eqb (command_at m r).kind 2 other)
    (sends (record { descriptor = at; extended = extended; type = three }) sent))))

-- A fault.

abbrev FaultKeeps : Memory → List ℕ → Outcome → Type 0
FaultKeeps m staged o = (fault : RingFault) → o.answer ≡ Err fault → (o.memory ≡ m) × (o.staged ≡ staged)

pub fault_changes_nothing : FaultChangesNothing
fault_changes_nothing m staged r tx =
    fetch_cases (FaultKeeps m staged) m staged r tx (λ fault e is. (refl, refl)) (λ context e is. absurd (cc))
    (λ full sent e is. absurd (cc))

-- A fetched slot.

next_of-inside : (r : Ring) → IsFalse (is_outside r) → next_of (slots_of r) r.head < slots_of r
next_of-inside r inside = grind (arith, nat_tests)

abbrev Done : Memory → List ℕ → Ring → Tx → Outcome → Type 0
Done m staged r tx o =
    (HasContext m r × (o ≡ context_outcome m staged r))
    ⊎ (HasData m r × CanSend m r tx (length staged) (descriptor_of m r)
    × (o ≡ data_outcome m staged r tx (descriptor_of m r)))

abbrev Takes : Memory → List ℕ → Ring → Tx → Outcome → Type 0
Takes m staged r tx o =
    (f : Fetched) → o.answer ≡ Ok f
    → (f.slot ≡ r.head) × (f.head ≡ next_of (slots_of r) r.head) × (next_of (slots_of r) r.head < slots_of r)
    × Done m staged r tx o

takes : (m : Memory) (staged : List ℕ) (r : Ring) (tx : Tx) → Takes m staged r tx (fetch_of m staged r tx)
takes m staged r tx =
    fetch_cases (Takes m staged r tx) m staged r tx (λ fault f is. absurd (cc))
    (λ context f is. (cc, cc, next_of-inside r context.descriptor.inside, inl (context, refl)))
    (λ full sent f is. (cc, cc, next_of-inside r full.descriptor.inside, inr (full, sent, refl)))

pub takes_slot : SlotLaw
takes_slot m staged r tx f is =
    let t = takes m staged r tx f is in
    record { slot = t.0; head = t.1; inside = rw t.1 t.2; done = t.3 }
