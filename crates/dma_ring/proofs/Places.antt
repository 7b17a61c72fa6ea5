-- Lemmas about the addresses of a ring's slots.
use Rattle.std.proofs.Common.{ℕ, inl, inr, arith}
use Rattle.std.proofs.lemmas.Bool.{cases_lt}
use Rattle.dma_ring.specs.Ring.{descriptor_address}
use Rattle.dma_ring.specs.Laws.{SlotsAreApart, SlotsAreInBlocks, RingIsInBlock}

pub slots_are_apart : SlotsAreApart
slots_are_apart r i j short below within ne =
    let at : ℕ = descriptor_address r i in
    let other : ℕ = descriptor_address r j in
    elim (cases_lt at other) [ inl l ↦ inl (omega arith) | inr l ↦ inr (omega arith) ]

pub slots_are_in_blocks : SlotsAreInBlocks
slots_are_in_blocks r slot base = (omega arith, omega arith)

pub ring_is_in_block : RingIsInBlock
ring_is_in_block r block slot low base short = omega arith
