use Rattle.std.proofs.Common.{◌≡◌, true, List, All, subst}
use Rattle.pmd.specs.TaskCells.{waits}
use Rattle.pmd.specs.declared.cell.TaskCell.{TaskCell}
use Rattle.pmd.proofs.RestOfCells.{others_wait}
use Rattle.pmd.proofs.hosted.+run_cells.Goals as goal

pub run_cells-requires-clause-waits : goal.run_cells-requires-clause-waits
run_cells-requires-clause-waits g t c κs within =
    others_wait _ _ (subst (λ (l : List (TaskCell _ _)). All (λ (s : TaskCell _ _). waits s ≡ true) l)
    c.in-Some-Some.ensures'.cases.0 c.requires.waits)
