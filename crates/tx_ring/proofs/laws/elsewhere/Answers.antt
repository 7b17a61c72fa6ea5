use Rattle.tx_ring.proofs.Reported.{writes_inside_report, fetch_keeps_blocks}
use Rattle.tx_ring.proofs.laws.elsewhere.Goals as goal

pub returns-clause-bytes : goal.returns-clause-bytes
returns-clause-bytes c = writes_inside_report

pub returns-clause-blocks : goal.returns-clause-blocks
returns-clause-blocks c = fetch_keeps_blocks
