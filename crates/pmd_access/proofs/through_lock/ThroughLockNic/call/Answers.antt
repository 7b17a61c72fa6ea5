use Rattle.std.proofs.Common.{sym, subst, IfErr}
use Rattle.pmd_access.specs.Refusals.{Refusals, CanRefuse}
use Rattle.pmd_access.specs.Stepped.{is_foreign}
use Rattle.pmd_access.proofs.Begun.{lock_begins}
use Rattle.pmd_access.proofs.LockStepping.{made_adds, refused_adds, call_same}
use Rattle.pmd_access.proofs.Refusals.{lock_refuses}
use Rattle.pmd_access.proofs.through_lock.ThroughLockNic.call.Goals as goal

pub returns-clause-made : goal.returns-clause-made
returns-clause-made g c =
    made_adds c.step_and_make.result c.args.event c.args.self.now c.step_and_make.new.self c.step_and_make.ensures.exact

pub returns-clause-refused : goal.returns-clause-refused
returns-clause-refused g c =
    refused_adds c.step_and_make.result c.args.event c.args.self.now c.step_and_make.new.self
    c.step_and_make.ensures.back c.step_and_make.ensures.during

pub returns-clause-refusal : goal.returns-clause-refusal
returns-clause-refusal g c =
    subst (λ (way : Refusals). IfErr c.step_and_make.result (λ f. CanRefuse way f))
    (sym (call_same c.step_and_make.result c.args.event c.args.self.now c.step_and_make.new.self
    c.step_and_make.ensures.exact c.step_and_make.ensures.during))
    (lock_refuses (is_foreign c.args.self.now) c.args.event c.step_and_make.result c.step_and_make.ensures.only
    c.step_and_make.ensures.back)

pub returns-clause-began : goal.returns-clause-began
returns-clause-began g c =
    lock_begins c.step_and_make.result c.args.event c.args.self.now c.step_and_make.new.self
    c.step_and_make.ensures.exact c.step_and_make.ensures.during
