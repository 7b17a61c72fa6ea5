-- Lemmas about the result of filling a slot.
use Rattle.std.proofs.Common.{◌≡◌, ℕ, ◌^◌, ◌<◌, ◌≤◌, length, refl, sym, ap, subst, ◌∙◌, arith, Ok}
use Rattle.std.specs.Prelude.{IsTrue, IsFalse}
use Rattle.std.proofs.lemmas.Bool.{eqb-true, eq-eqb}
use Rattle.std.proofs.lemmas.Bool.Decides.{nat_tests}
use Rattle.dma_arena.specs.Memory.{Memory, is_lent, IsWhole, SameLent}
use Rattle.dma_ring.specs.declared.ring.Ring.{Ring}
use Rattle.dma_ring.specs.Ring.{slots_of, is_outside, next_of}
use Rattle.rx_ring.specs.declared.filled.Filled.{Filled}
use Rattle.rx_ring.specs.Fill.{Rest, Outcome, buffer_address, memory_with, fill_of}
use Rattle.rx_ring.specs.Laws.{IsSetUp, HasDescriptor, TakesPiece, PieceLaw, DriverReads, WritesInsideSlot, FillsTwoBlocks, FillKeepsBlocks}
use Rattle.rx_ring.proofs.Written.{ShowsPiece-memory_with, ChangesOnlySlot-memory_with, FillsBlocks-memory_with, SameLent-memory_with, IsWhole-memory_with}
use Rattle.rx_ring.proofs.Tests.{piece_of, head_filled, fill_cases}

abbrev Takes : Memory → Ring → ℕ → Rest → Outcome → Type 0
Takes m r srrctl rest o =
    (f : Filled) → o.answer ≡ Ok f
    → (head_filled m r srrctl rest ≡ f) × (o.memory ≡ memory_with m rest f) × IsSetUp r srrctl × HasDescriptor m r
    × IsTrue (is_lent m (buffer_address m r) (piece_of srrctl rest))

takes : (m : Memory) (r : Ring) (srrctl : ℕ) (rest : Rest) → Takes m r srrctl rest (fill_of m r srrctl rest)
takes m r srrctl rest =
    fill_cases (Takes m r srrctl rest) m r srrctl rest (λ fault f is. absurd (cc)) (λ set descriptor buffer f is.
    let same : head_filled m r srrctl rest ≡ f = cc in
    (same, ap (memory_with m rest) same, set, descriptor, buffer))

next_of-inside : (r : Ring) → IsFalse (is_outside r) → next_of (slots_of r) r.head < slots_of r
next_of-inside r inside = grind (arith, nat_tests)

TakesPiece-head : (m : Memory) (r : Ring) (srrctl : ℕ) (rest : Rest) → IsSetUp r srrctl → HasDescriptor m r
    → IsTrue (is_lent m (buffer_address m r) (piece_of srrctl rest))
    → (fill_of m r srrctl rest).memory ≡ memory_with m rest (head_filled m r srrctl rest)
    → TakesPiece m r srrctl rest (head_filled m r srrctl rest)
TakesPiece-head m r srrctl rest set descriptor buffer memory =
    let sized = set.sized in
    record {
      slot = refl;
      head = refl;
      inside = next_of-inside r set.inside;
      desc = refl;
      at = refl;
      len = refl;
      end = (eqb-true (piece_of srrctl rest) (length rest.bytes), eq-eqb (piece_of srrctl rest) (length rest.bytes));
      some = λ more. omega arith;
      set_up = set;
      descriptor_lent = descriptor;
      buffer_lent = buffer;
      memory = memory;
    }

pub takes_piece : PieceLaw
takes_piece m r srrctl rest f is =
    let t = takes m r srrctl rest f is in
    subst (TakesPiece m r srrctl rest) t.0
    (TakesPiece-head m r srrctl rest t.2 t.3 t.4 (t.1 ∙ sym (ap (memory_with m rest) t.0)))

within_rest : (m : Memory) (r : Ring) (srrctl : ℕ) (rest : Rest) (f : Filled) → TakesPiece m r srrctl rest f
    → f.len ≤ length rest.bytes
within_rest m r srrctl rest f takes = omega (arith, takes.len)

short_piece : (m : Memory) (r : Ring) (srrctl : ℕ) (rest : Rest) (f : Filled) → TakesPiece m r srrctl rest f
    → f.len < 2 ^ 16
short_piece m r srrctl rest f takes = omega (arith, takes.len)

pub driver_reads : DriverReads
driver_reads m r srrctl rest f whole fits is =
    let t = takes_piece m r srrctl rest f is in
    rw (t.memory)
    (ShowsPiece-memory_with m rest f whole fits (short_piece m r srrctl rest f t)
    (within_rest m r srrctl rest f t) t.descriptor_lent t.buffer_lent)

pub writes_inside_slot : WritesInsideSlot
writes_inside_slot m r srrctl rest f is =
    let t = takes_piece m r srrctl rest f is in
    rw (t.memory) (ChangesOnlySlot-memory_with m rest f (within_rest m r srrctl rest f t))

pub fills_two_blocks : FillsTwoBlocks
fills_two_blocks m r srrctl rest f ring buffer whole is desc at =
    let t = takes_piece m r srrctl rest f is in
    rw (t.memory) (FillsBlocks-memory_with m rest f ring buffer whole (within_rest m r srrctl rest f t) desc at)

abbrev KeepsBlocks : Memory → Outcome → Type 0
KeepsBlocks m o = SameLent o.memory m × (IsWhole m → IsWhole o.memory)

pub fill_keeps_blocks : FillKeepsBlocks
fill_keeps_blocks m r srrctl rest =
    fill_cases (KeepsBlocks m) m r srrctl rest (λ fault. ((λ number. refl), λ whole. whole))
    (λ set descriptor buffer. (
      SameLent-memory_with m rest (head_filled m r srrctl rest),
      IsWhole-memory_with m rest (head_filled m r srrctl rest),
    ))
