use Rattle.std.proofs.Common.{length}
use Rattle.echo.proofs.workers.tell.Given as goal

abbrev pub decreases-loop-pass : goal.decreases-loop-pass
decreases-loop-pass g l = length l.ends.items
