use Rattle.pmd_tx.proofs.Own.{take_done, take_fails, take_refused}
use Rattle.pmd_tx.proofs.ring.TransmitRing.take_oldest.Goals as goal

pub returns-in-Ok-Some-clause-acts : goal.returns-in-Ok-Some-clause-acts
returns-in-Ok-Some-clause-acts g c =
    take_done _ _ c.args.self.now _ (c.requires, c.oldest_block-block.ensures.block) c.in-Ok-Some.buf
    (rw c.in-Ok-Some.field-0-is at c.in-Ok-Some.ensures.made) c.keep_reaped.ensures

pub returns-in-Ok-None-clause-acts : goal.returns-in-Ok-None-clause-acts
returns-in-Ok-None-clause-acts g c =
    take_fails _ _ c.args.self.now _ (c.requires, c.oldest_block-block.ensures.block)
    (rw c.in-Ok-None.field-0-is at c.in-Ok-None.ensures.made)

pub returns-in-Err-clause-acts : goal.returns-in-Err-clause-acts
returns-in-Err-clause-acts g c =
    take_refused _ _ c.args.self.now _ (c.requires, c.oldest_block-block.ensures.block) _ c.in-Err.ensures.refused
