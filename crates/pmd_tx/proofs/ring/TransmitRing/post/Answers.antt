use Rattle.pmd_tx.proofs.Acting.{continues_none}
use Rattle.pmd_tx.proofs.ring.TransmitRing.post.Goals as goal

pub returns-then-is_settled-clause-continues : goal.returns-then-is_settled-clause-continues
returns-then-is_settled-clause-continues g c = continues_none
