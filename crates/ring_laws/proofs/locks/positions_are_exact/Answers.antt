use Rattle.ring_laws.proofs.Ending.{positions_are}
use Rattle.ring_laws.proofs.locks.positions_are_exact.Goals as goal

pub returns : goal.returns
returns c = positions_are
