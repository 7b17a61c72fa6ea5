-- Lemmas about the tests that a slot must pass, and about the possible results of filling it.
use Rattle.std.proofs.Common.{◌∙◌, ◌≡◌, ℕ, ◌≤◌, true, refl, arith, Err}
use Rattle.std.specs.Prelude.{◌==◌, IsTrue}
use Rattle.std.proofs.lemmas.Bool.{cond_both, eqb-true, eqb-false, eq-eqb, ne_eqb}
use Rattle.dma_arena.specs.Memory.{Memory, is_lent}
use Rattle.dma_arena.proofs.Bus.{is_lent_each, is_lent_of_each}
use Rattle.dma_ring.specs.declared.ring.Ring.{Ring}
use Rattle.dma_ring.specs.declared.fault.RingFault.{RingFault}
use Rattle.dma_ring.specs.declared.fault.RingFault.TheVariants.{Outside, NotLent, DescType, NoBufferSize}
use Rattle.dma_ring.specs.Ring.{is_outside}
use Rattle.rx_ring.specs.declared.filled.Filled.{Filled}
use Rattle.rx_ring.specs.Control.{descriptor_type_of, buffer_size_of}
use Rattle.rx_ring.specs.Fill.{Rest, Outcome, head_address, buffer_address, piece_length, filled_of, fault_outcome, filled_outcome, fill_of, fill_slot_of, fill_buffer_of}
use Rattle.rx_ring.specs.Laws.{IsSetUp, HasDescriptor, TestLaw, FaultWritesNothing, HealthyIsFilled}

-- The bytes that go into the buffer at the head, and the slot filled with them.
abbrev pub piece_of : ℕ → Rest → ℕ
piece_of srrctl rest = piece_length (buffer_size_of srrctl) rest

abbrev pub head_filled : Memory → Ring → ℕ → Rest → Filled
head_filled m r srrctl rest = filled_of r rest (buffer_address m r) (piece_of srrctl rest)

-- The result is a fault, or the slot at the head is filled.
pub fill_cases : (P : Outcome → Type 0) (m : Memory) (r : Ring) (srrctl : ℕ) (rest : Rest)
    → ((fault : RingFault) → P (fault_outcome m fault))
    → (IsSetUp r srrctl → HasDescriptor m r → IsTrue (is_lent m (buffer_address m r) (piece_of srrctl rest))
    → P (filled_outcome m rest (head_filled m r srrctl rest)))
    → P (fill_of m r srrctl rest)
unfolding fill_of fill_slot_of fill_buffer_of
fill_cases P m r srrctl rest faults fills =
    cond_both (is_outside r) _ _ P (λ out. faults Outside) (λ inside.
    cond_both (descriptor_type_of srrctl == 1) _ _ P (λ one.
    cond_both (buffer_size_of srrctl == 0) _ _ P (λ zero. faults NoBufferSize) (λ sized.
    cond_both (is_lent m (head_address r) 16) _ _ P (λ descriptor.
    cond_both (is_lent m (buffer_address m r) (piece_of srrctl rest)) _ _ P
    (λ buffer. fills
    (record { inside = inside; one_buffer = eqb-true _ _ one; sized = eqb-false _ _ sized }) descriptor buffer)
    (λ absent. faults (NotLent (buffer_address m r))))
    (λ absent. faults (NotLent (head_address r)))))
    (λ other. faults DescType))

-- The tests.

-- If the registers are set up, the descriptor is tested next.
descriptor_next : (m : Memory) (r : Ring) (srrctl : ℕ) (rest : Rest) → IsSetUp r srrctl
    → fill_of m r srrctl rest ≡ fill_slot_of m r rest (buffer_size_of srrctl)
unfolding fill_of
descriptor_next m r srrctl rest set =
    let one = eq-eqb (descriptor_type_of srrctl) 1 set.one_buffer in
    rw (set.inside, one, ne_eqb (buffer_size_of srrctl) 0 set.sized) refl

pub tests_in_order : TestLaw
unfolding fill_of fill_slot_of fill_buffer_of
tests_in_order m r srrctl rest = record {
  outside = λ out. rw out refl;
  type = λ inside other. rw (inside, ne_eqb (descriptor_type_of srrctl) 1 other) refl;
  size = λ inside one zero.
      rw (inside, eq-eqb (descriptor_type_of srrctl) 1 one, eq-eqb (buffer_size_of srrctl) 0 zero) refl;
  descriptor = λ set absent. descriptor_next m r srrctl rest set ∙ rw absent refl;
  buffer = λ set descriptor absent. descriptor_next m r srrctl rest set ∙ rw (descriptor, absent) refl;
  filled = λ set descriptor buffer. descriptor_next m r srrctl rest set ∙ rw (descriptor, buffer) refl;
}

-- A prefix of a lent range is lent.
is_lent-front : (m : Memory) (a n k : ℕ) → k ≤ n → is_lent m a n ≡ true → is_lent m a k ≡ true
is_lent-front m a n k within lent = is_lent_of_each m a k (λ c low high. is_lent_each m a n c lent low (omega arith))

pub fill_healthy : HealthyIsFilled
fill_healthy m r srrctl rest healthy =
    (tests_in_order m r srrctl rest).filled healthy.set_up healthy.descriptor
    (is_lent-front m (buffer_address m r) (buffer_size_of srrctl) (piece_of srrctl rest) (omega arith) healthy.buffer)

-- A fault.

abbrev FaultKeeps : Memory → Outcome → Type 0
FaultKeeps m o = (fault : RingFault) → o.answer ≡ Err fault → o.memory ≡ m

pub fault_writes_nothing : FaultWritesNothing
fault_writes_nothing m r srrctl rest =
    fill_cases (FaultKeeps m) m r srrctl rest (λ fault e is. refl) (λ set descriptor buffer e is. absurd (cc))
