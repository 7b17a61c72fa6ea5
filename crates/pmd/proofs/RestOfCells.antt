-- Lemmas about the first of some cells, and the remaining cells.
use Rattle.std.proofs.Common.{◌≡◌, zero, suc, true, List, ◌∷◌, All, arith}
use Rattle.pmd.specs.TaskCells.{waits, IsEnded, EachEnded}
use Rattle.pmd.specs.declared.cell.TaskCell.{TaskCell}

module _ {T E : Type 0} where
  -- If none of the tasks has run yet, none of the remaining cells' tasks has run.
  pub others_wait : (s : TaskCell T E) (others : List (TaskCell T E))
      → All (λ (c : TaskCell T E). waits c ≡ true) (s ∷ others) → All (λ (c : TaskCell T E). waits c ≡ true) others
  others_wait s others all = λ k d less. all (suc k) d (omega (arith, less))
