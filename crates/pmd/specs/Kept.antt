-- The blocks of a worker's driver.
use Rattle.std.specs.Prelude.{ℕ, List}
use Rattle.pmd_driver.specs.NicDevice.DmaArena.Numbers.{Numbers}
use Rattle.pmd_driver.specs.Blocks.{HasAll}
use Rattle.pmd_driver.specs.Driver.{halted_of}
use Rattle.pmd_driver.specs.declared.driver.Rings.{Rings}

-- A driver that had all blocks of an arena, except those in hand, still has them all, except those in hand afterwards.
abbrev pub KeepsAll : Rings → List ℕ → Rings → List ℕ → Type 0
KeepsAll old hand new later = (a : Numbers) → HasAll a (halted_of old) hand → HasAll a (halted_of new) later
