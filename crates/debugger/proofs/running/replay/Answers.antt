use Rattle.std.proofs.Common.{refl}
use Rattle.debugger.proofs.Early.{replayed-early}
use Rattle.debugger.proofs.running.replay.Goals as goal

pub returns-in-Ok-clause-steps : goal.returns-in-Ok-clause-steps
returns-in-Ok-clause-steps c =
    replayed-early c.args.config c.in_ok-machine.machine c.run_on.new.machine c.new.result.items _ c.args.steps
    c.steps.result c.in_ok-machine.ensures.config c.in_ok-machine.ensures.at c.in_ok-machine.ensures.early
    c.steps.ensures.count refl c.new.ensures c.run_on.ensures.at c.in-Ok.ensures.steps
