use Rattle.pmd_driver.proofs.Living.{runs_still, runs_on}
use Rattle.pmd.proofs.driving.work.Goals as goal

pub returns-in_err-meet-clause-drives : goal.returns-in_err-meet-clause-drives
returns-in_err-meet-clause-drives g c = runs_still _ _

pub returns-in_err-meet-2-clause-drives : goal.returns-in_err-meet-2-clause-drives
returns-in_err-meet-2-clause-drives g c = runs_still _ _

pub returns-in_err-reap_all-clause-drives : goal.returns-in_err-reap_all-clause-drives
returns-in_err-reap_all-clause-drives g c = runs_on _ _ _ _ _ _ c.do_rounds.ensures.drives c.reap_all.ensures.drives

pub returns-clause-drives : goal.returns-clause-drives
returns-clause-drives g c = runs_on _ _ _ _ _ _ c.do_rounds.ensures.drives c.reap_all.ensures.drives
