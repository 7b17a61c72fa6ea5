use Rattle.std.proofs.Common.{inl}
use Rattle.pmd_driver.proofs.stopping.Leaving.go_home.Goals as goal

pub returns-in-Err-clause-failed : goal.returns-in-Err-clause-failed
returns-in-Err-clause-failed g c = inl (c.in-Err.ensures.failed, c.of_leaving.ensures)
