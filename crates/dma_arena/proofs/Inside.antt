-- Lemmas about ranges within one block.
use Rattle.std.proofs.Common.{◌≡◌, zero, suc, ◌+◌, ◌/◌, inl, inr, refl, arith}
use Rattle.std.proofs.lemmas.Bool.{cases_lt}
use Rattle.dma_arena.specs.Memory.{byte_at, is_lent, read_at}
use Rattle.dma_arena.specs.Laws.{InsideAvoids, ReadsItsBlock}

pub inside_avoids : InsideAvoids
inside_avoids number other a n inside ne =
    elim (cases_lt number other) [ inl l ↦ inl (omega (arith, inside)) | inr l ↦ inr (omega (arith, inside)) ]

pub reads_its_block : ReadsItsBlock
unfolding read_at is_lent byte_at
reads_its_block m other number a zero same inside = (refl, refl)
reads_its_block m other number a (suc n) same inside =
    let here : a / 2048 ≡ number = omega (arith, inside) in
    let rest = reads_its_block m other number (a + 1) n same (omega (arith, inside), omega (arith, inside)) in
    (rw (here, same, rest.0) refl, rw (here, same, rest.1) refl)
