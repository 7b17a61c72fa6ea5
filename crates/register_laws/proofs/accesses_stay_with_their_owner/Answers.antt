use Rattle.register_laws.proofs.Accessed.{covers-of_read, covers-of_write, read_misses_sides}
use Rattle.register_laws.proofs.Footprints.{covers-any_pending, misses-owner}
use Rattle.register_laws.proofs.NoSide.{counters_own, pending_misses_sides}
use Rattle.register_laws.proofs.ReadBack.{one_place, owners_differ}
use Rattle.register_laws.proofs.accesses_stay_with_their_owner.Goals as goal

pub returns-clause-read : goal.returns-clause-read
returns-clause-read c = covers-of_read

pub returns-clause-write : goal.returns-clause-write
returns-clause-write c = covers-of_write

pub returns-clause-apart : goal.returns-clause-apart
returns-clause-apart c = misses-owner

pub returns-clause-differ : goal.returns-clause-differ
returns-clause-differ c = owners_differ

pub returns-clause-word : goal.returns-clause-word
returns-clause-word c = one_place

pub returns-clause-pending : goal.returns-clause-pending
returns-clause-pending c = covers-any_pending

pub returns-clause-counters : goal.returns-clause-counters
returns-clause-counters c = counters_own

pub returns-clause-interrupts : goal.returns-clause-interrupts
returns-clause-interrupts c = pending_misses_sides

pub returns-clause-no_side : goal.returns-clause-no_side
returns-clause-no_side c = read_misses_sides
