use Rattle.std.specs.Prelude.{ℕ, List}
use Rattle.std.specs.Borrow.{Lends, MutBor, Fml, Array, u8}
use Rattle.dma_arena.specs.Block.{Block}
use Rattle.dma_arena.specs.contracts.buf.Buf.{the_row}

-- When the borrow `bytes` ends, the block contains the bytes last written through it.
abbrev pub LendsBytes : MutBor Block → MutBor (List ℕ) → Fml
LendsBytes buf bytes = Lends the_row (Array u8 0) buf bytes (λ w. record buf.now { bytes = w })
