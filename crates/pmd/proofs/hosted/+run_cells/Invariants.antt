use Rattle.std.proofs.Common.{length}
use Rattle.pmd.proofs.hosted.+run_cells.Given as goal

abbrev pub decreases-run_cells : goal.decreases-run_cells
decreases-run_cells g l = length l.starts.now
