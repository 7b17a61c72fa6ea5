use Rattle.tx_ring.proofs.Reports.{report_law, reports_in_one_block, done_changes_done_alone}
use Rattle.tx_ring.proofs.laws.reports.Goals as goal

pub returns-clause-address : goal.returns-clause-address
returns-clause-address c = report_law

pub returns-clause-block : goal.returns-clause-block
returns-clause-block c = reports_in_one_block

pub returns-clause-done : goal.returns-clause-done
returns-clause-done c = done_changes_done_alone
