use Rattle.pmd_tx.proofs.Acting.{continues_then}
use Rattle.pmd_tx.proofs.ring.TransmitRing.ask_next.Goals as goal

pub returns-in-Ok-clause-continues : goal.returns-in-Ok-clause-continues
returns-in-Ok-clause-continues g c = continues_then c.lend_waiting.ensures.continues c.ask.ensures.continues
