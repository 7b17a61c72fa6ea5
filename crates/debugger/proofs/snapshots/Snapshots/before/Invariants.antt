use Rattle.std.proofs.Common.{◌≤◌, length}
use Rattle.debugger.proofs.snapshots.Snapshots.before.Given as goal

abbrev pub invariant-each : goal.invariant-each
invariant-each l = l.at ≤ length l.kept

abbrev pub decreases-each : goal.decreases-each
decreases-each l = l.at
