use Rattle.device_lock.specs.Stepping.{steps_of_queue}
use Rattle.pmd_access.proofs.Begun.{during_begins, call_begins}
use Rattle.pmd_access.proofs.Stepping.{queue_steps, reply_adds, refused_during}
use Rattle.pmd_access.proofs.direct.Direct.step_and_make.Goals as goal

pub returns-in-Ok-clause-adds : goal.returns-in-Ok-clause-adds
returns-in-Ok-clause-adds c =
    reply_adds (steps_of_queue c.args.self.now.queue) c.args.event c.make.result c.args.self.now c.step_on.new.self
    c.make.new.self (queue_steps c.args.self.now.queue) c.in-Ok.ensures.made c.make.ensures.made c.make.ensures.reply

pub returns-in-Ok-clause-during : goal.returns-in-Ok-clause-during
returns-in-Ok-clause-during c =
    refused_during c.make.result c.args.self.now c.step_on.new.self c.make.new.self c.in-Ok.ensures.made
    c.make.ensures.unchanged

pub returns-in-Ok-clause-began : goal.returns-in-Ok-clause-began
returns-in-Ok-clause-began c =
    call_begins c.make.result c.args.event c.args.self.now c.step_on.new.self c.make.new.self
    c.is_of_a_driver.ensures c.step_on.ensures.number c.in-Ok.ensures.made c.make.ensures.made
    c.make.ensures.unchanged

pub returns-in-Err-clause-began : goal.returns-in-Err-clause-began
returns-in-Err-clause-began c =
    during_begins c.args.self.now c.step_on.new.self c.step_on.ensures.number c.in-Err.ensures.refused
