use Rattle.pmd.proofs.InOrder.{ends_in_order}
use Rattle.pmd.proofs.team.run_workers.Goals as goal

pub returns-in-Some-clause-refused : goal.returns-in-Some-clause-refused
returns-in-Some-clause-refused g c = rw (← c.deref.ensures.value) c.in-Some.ensures.some

pub returns-in_default-make_all_room-clause-refused : goal.returns-in_default-make_all_room-clause-refused
returns-in_default-make_all_room-clause-refused g c = rw (← c.deref.ensures.value) c.in_default.ensures.none

pub returns-clause-team : goal.returns-clause-team
returns-clause-team g c = rw (← c.deref.ensures.value) c.in_default.ensures.none

pub returns-clause-order : goal.returns-clause-order
returns-clause-order g c = ends_in_order c.args.jobs.items _ c.run_in.ensures.ends
