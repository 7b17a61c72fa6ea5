use Rattle.script_laws.proofs.Commands.{held}
use Rattle.script_laws.proofs.breakpoints_hold_runs.Goals as goal

-- src/lib.rt
pub returns : goal.returns
returns c = held
