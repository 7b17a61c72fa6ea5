use Rattle.pmd_tx.proofs.Acting.{continues_none}
use Rattle.pmd_tx.proofs.ring.TransmitRing.lend_waiting.Goals as goal

pub returns-then-is_next_lent-clause-continues : goal.returns-then-is_next_lent-clause-continues
returns-then-is_next_lent-clause-continues g c = continues_none
