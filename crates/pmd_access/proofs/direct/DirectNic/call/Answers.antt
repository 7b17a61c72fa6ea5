use Rattle.pmd_access.proofs.Refusals.{memory_refuses}
use Rattle.pmd_access.proofs.Stepping.{refused_adds}
use Rattle.pmd_access.proofs.direct.DirectNic.call.Goals as goal

pub returns-clause-refused : goal.returns-clause-refused
returns-clause-refused c =
    refused_adds c.args.event c.step_and_make.result c.args.self.now c.step_and_make.new.self
    c.step_and_make.ensures.memory
    c.step_and_make.ensures.during

pub returns-clause-refusal : goal.returns-clause-refusal
returns-clause-refusal c = memory_refuses c.args.event c.step_and_make.result _ c.step_and_make.ensures.memory
