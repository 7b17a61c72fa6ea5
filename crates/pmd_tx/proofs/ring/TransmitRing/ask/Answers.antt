use Rattle.pmd_tx.proofs.Own.{ask_done, ask_fails, ask_refused}
use Rattle.pmd_tx.proofs.ring.TransmitRing.ask.Goals as goal

pub returns-in-Ok-true-clause-continues : goal.returns-in-Ok-true-clause-continues
returns-in-Ok-true-clause-continues g c =
    ask_done _ _ c.args.self.now _ _ (c.requires, c.next_descriptor-address.ensures, c.asking-bytes.ensures)
    (rw c.in-Ok-true.field-0-test at c.in-Ok-true.ensures.made) c.keep_asked.ensures

pub returns-in-Ok-false-clause-continues : goal.returns-in-Ok-false-clause-continues
returns-in-Ok-false-clause-continues g c =
    ask_fails _ _ c.args.self.now _ _ (c.requires, c.next_descriptor-address.ensures, c.asking-bytes.ensures)
    (rw c.in-Ok-false.field-0-test at c.in-Ok-false.ensures.made)

pub returns-in-Err-clause-continues : goal.returns-in-Err-clause-continues
returns-in-Err-clause-continues g c =
    ask_refused _ _ c.args.self.now _ _ (c.requires, c.next_descriptor-address.ensures, c.asking-bytes.ensures) _
    c.in-Err.ensures.refused
