use Rattle.pmd_tx.proofs.Acting.{reaped_after, reaped_none}
use Rattle.pmd_tx.proofs.ring.TransmitRing.reap_oldest.Goals as goal

pub returns-in-Ok-true-clause-reaped : goal.returns-in-Ok-true-clause-reaped
returns-in-Ok-true-clause-reaped g c = reaped_after c.see_oldest.ensures.continues c.free_oldest.ensures.reaped

pub returns-in-Ok-false-clause-reaped : goal.returns-in-Ok-false-clause-reaped
returns-in-Ok-false-clause-reaped g c =
    reaped_none c.in-Ok-false.ensures.continues (rw c.see_oldest.ensures.kept c.requires.settled) c.requires.out

pub returns-in-Err-clause-reaped : goal.returns-in-Err-clause-reaped
returns-in-Err-clause-reaped g c =
    reaped_none c.in-Err.ensures.continues (rw c.see_oldest.ensures.kept c.requires.settled) c.requires.out
