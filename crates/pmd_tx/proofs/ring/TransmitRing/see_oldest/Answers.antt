use Rattle.pmd_tx.proofs.Acting.{continues_none}
use Rattle.pmd_tx.proofs.ring.TransmitRing.see_oldest.Goals as goal

pub returns-then-has_done-clause-continues : goal.returns-then-has_done-clause-continues
returns-then-has_done-clause-continues g c = continues_none
