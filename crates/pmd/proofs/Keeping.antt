-- Lemmas about where a driver's blocks are after one of its calls.
use Rattle.std.proofs.Common.{ℕ, List, [], ◌++◌}
use Rattle.pmd_driver.specs.Halted.{all_out}
use Rattle.pmd_driver.specs.Blocks.{KeepsBlocks}
use Rattle.pmd_driver.specs.Driver.{halted_of}
use Rattle.pmd_driver.specs.declared.driver.Rings.{Rings}
use Rattle.pmd_driver.proofs.Whole.{keeps_then}
use Rattle.pmd.specs.Kept.{KeepsAll}

-- After a call that keeps each block, the driver still has all blocks of an arena.
pub kept_all : (R S : Rings) (given back : List ℕ) → KeepsBlocks R given S back → KeepsAll R given S back
kept_all R S given back keeps a has =
    keeps_then a (halted_of R).arena (halted_of S).arena [] (all_out (halted_of R) ++ given)
    (all_out (halted_of S) ++ back) has keeps
