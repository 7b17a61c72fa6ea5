-- Rings without a slot for the device, in terms of register bits.
use Rattle.std.proofs.Common.{◌≡◌, ◌<◌, ◌%◌, ◌^◌, ◌==◌, ◌&&◌, ℕ, true, false, not, nat_lt, ap, subst, arith}
use Rattle.std.proofs.lemmas.Bool.{and_parts, and_from, not-true, not-false, ltb-true, lt-ltb, eqb-true, eq-eqb}
use Rattle.nic_device.specs.RegisterFile.Queue.{ring_of}
use Rattle.datasheet_laws.specs.FramePrelude.{Registers, Ring, Rx, Tx, is_empty, is_outside, slots_of}
use Rattle.datasheet_laws.specs.Bits.{field}
use Rattle.datasheet_laws.specs.Receiving as receiving
use Rattle.datasheet_laws.specs.Transmitting as transmitting

pub low-half : (word : ℕ) → field 15 0 word ≡ word % 2 ^ 16
low-half word = omega arith

-- Head and tail are the same slot.
empty-slot : (ring : Ring) → is_empty ring ≡ true → (ring.head < slots_of ring) × (ring.head ≡ ring.tail)
empty-slot ring e =
    let parts = and_parts (not (is_outside ring)) (ring.head == ring.tail) e in
    let both = not-false (nat_lt ring.head (slots_of ring) && nat_lt ring.tail (slots_of ring))
    (not-true (is_outside ring) parts.0) in
    let inside = and_parts (nat_lt ring.head (slots_of ring)) (nat_lt ring.tail (slots_of ring)) both in
    (ltb-true ring.head (slots_of ring) inside.0, eqb-true ring.head ring.tail parts.1)

slot-empty : (ring : Ring) → ring.head < slots_of ring → ring.head ≡ ring.tail → is_empty ring ≡ true
slot-empty ring inside same =
    let slots = slots_of ring in
    let both = and_from (nat_lt ring.head slots) (nat_lt ring.tail slots) (lt-ltb ring.head slots inside)
    (lt-ltb ring.tail slots (subst (λ n. n < slots) same inside)) in
    and_from (not (is_outside ring)) (ring.head == ring.tail) (ap (λ b. not (not b)) both)
    (eq-eqb ring.head ring.tail same)

-- Head and tail are slots.
pub slots-inside : (ring : Ring) → is_outside ring ≡ false
    → (ring.head < slots_of ring) × (ring.tail < slots_of ring)
slots-inside ring e =
    let both = not-false (nat_lt ring.head (slots_of ring) && nat_lt ring.tail (slots_of ring)) e in
    let inside = and_parts (nat_lt ring.head (slots_of ring)) (nat_lt ring.tail (slots_of ring)) both in
    (ltb-true ring.head (slots_of ring) inside.0, ltb-true ring.tail (slots_of ring) inside.1)

pub inside-slots : (ring : Ring) → ring.head < slots_of ring → ring.tail < slots_of ring → is_outside ring ≡ false
inside-slots ring head tail =
    ap not
    (and_from (nat_lt ring.head (slots_of ring)) (nat_lt ring.tail (slots_of ring))
    (lt-ltb ring.head (slots_of ring) head) (lt-ltb ring.tail (slots_of ring) tail))

pub receive-slotless : (r : Registers) (queue : ℕ) → is_empty (ring_of r Rx queue) ≡ true → receiving.HasNoSlot r queue
receive-slotless r queue e =
    let here = empty-slot (ring_of r Rx queue) e in
    let inside = here.0 in
    let same = here.1 in
    record { inside = omega arith; same = omega arith }

pub receive-empty : (r : Registers) (queue : ℕ) → receiving.HasNoSlot r queue → is_empty (ring_of r Rx queue) ≡ true
receive-empty r queue h = slot-empty (ring_of r Rx queue) (omega (arith, h.inside)) (omega (arith, h.same))

pub transmit-slotless : (r : Registers) (queue : ℕ) → is_empty (ring_of r Tx queue) ≡ true
    → transmitting.HasNoSlot r queue
transmit-slotless r queue e =
    let here = empty-slot (ring_of r Tx queue) e in
    let inside = here.0 in
    let same = here.1 in
    record { inside = omega arith; same = omega arith }

pub transmit-empty : (r : Registers) (queue : ℕ) → transmitting.HasNoSlot r queue
    → is_empty (ring_of r Tx queue) ≡ true
transmit-empty r queue h = slot-empty (ring_of r Tx queue) (omega (arith, h.inside)) (omega (arith, h.same))
