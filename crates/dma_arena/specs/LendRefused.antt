use Rattle.std.specs.Prelude.{⊤}
use Rattle.dma_arena.specs.Block.{Block}
use Rattle.dma_arena.specs.declared.lent.LendRefused.{LendRefused}
use Rattle.dma_arena.specs.declared.lent.LendRefused.TheVariants.{Twice, OutOfMemory}

-- The block that the error contains.
abbrev pub back_of : LendRefused → Block
back_of (Twice buf) = buf
back_of (OutOfMemory buf) = buf

-- The error says that the number is already lent.
abbrev pub IsTwice : LendRefused → Type 0
IsTwice (Twice buf) = ⊤
IsTwice (OutOfMemory buf) = ⊥
