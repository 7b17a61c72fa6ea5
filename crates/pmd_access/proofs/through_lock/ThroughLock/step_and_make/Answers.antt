use Rattle.pmd_access.proofs.LockStepping.{pass_made, pass_stops}
use Rattle.pmd_access.proofs.through_lock.ThroughLock.step_and_make.Goals as goal

pub returns-clause-exact : goal.returns-clause-exact
returns-clause-exact g c =
    pass_made c.call_stepped.result c.args.event c.args.self.now _ _ c.self.view_is c.call_stepped.ensures.exact

pub returns-clause-during : goal.returns-clause-during
returns-clause-during g c =
    pass_stops c.call_stepped.result c.args.self.now _ _ c.self.view_is c.call_stepped.ensures.during
