use Rattle.pmd.proofs.driving.run_worker.Goals as goal

pub returns-in-Err-clause-whole : goal.returns-in-Err-clause-whole
returns-in-Err-clause-whole g c = c.end.ensures.whole c.args.arena c.in-Err.ensures.whole

pub returns-in-Ok-clause-lived : goal.returns-in-Ok-clause-lived
returns-in-Ok-clause-lived g c = c.drive.ensures.lived _ _ _ _ _ c.in-Ok.ensures.started

pub returns-in-Ok-clause-reported : goal.returns-in-Ok-clause-reported
returns-in-Ok-clause-reported g c = c.drive.ensures.reported
