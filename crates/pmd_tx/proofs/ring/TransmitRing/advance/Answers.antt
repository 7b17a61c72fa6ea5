use Rattle.pmd_tx.proofs.Own.{tail_done, tail_fails, tail_refused}
use Rattle.pmd_tx.proofs.ring.TransmitRing.advance.Goals as goal

pub returns-in-Ok-true-clause-continues : goal.returns-in-Ok-true-clause-continues
returns-in-Ok-true-clause-continues g c =
    tail_done _ _ c.args.self.now _ c.requires.all c.requires.some c.next_tail-word.ensures
    (rw c.in-Ok-true.field-0-test at c.in-Ok-true.ensures.made) c.keep_advanced.ensures

pub returns-in-Ok-false-clause-continues : goal.returns-in-Ok-false-clause-continues
returns-in-Ok-false-clause-continues g c =
    tail_fails _ _ c.args.self.now _ c.requires.all c.requires.some c.next_tail-word.ensures
    (rw c.in-Ok-false.field-0-test at c.in-Ok-false.ensures.made)

pub returns-in-Err-clause-continues : goal.returns-in-Err-clause-continues
returns-in-Err-clause-continues g c =
    tail_refused _ _ c.args.self.now _ c.requires.all c.requires.some c.next_tail-word.ensures _
    c.in-Err.ensures.refused
