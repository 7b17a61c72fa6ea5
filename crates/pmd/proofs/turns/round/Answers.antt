use Rattle.pmd_driver.proofs.Living.{runs_on}
use Rattle.pmd.proofs.turns.round.Goals as goal

pub returns-in_err-reap-clause-drives : goal.returns-in_err-reap-clause-drives
returns-in_err-reap-clause-drives g c = runs_on _ _ _ _ _ _ c.turn.ensures.drives c.reap.ensures.drives

pub returns-clause-drives : goal.returns-clause-drives
returns-clause-drives g c = runs_on _ _ _ _ _ _ c.turn.ensures.drives c.reap.ensures.drives
