use Rattle.std.proofs.Common.{arith, sym, ◌∙◌}
use Rattle.bench_commands.proofs.StepsText.{answer-written, next-steps, no-steps, steps-begun, stopped-state}
use Rattle.bench_commands.proofs.StepsText.{stopped-text}
use Rattle.bench_commands.proofs.steps.write_steps.Goals as goal

pub loop-init : goal.loop-init
loop-init g c = no-steps _ _ c.requires

pub returns-in-Ok-Stopped-clause-text : goal.returns-in-Ok-Stopped-clause-text
returns-in-Ok-Stopped-clause-text g c =
    stopped-text _ _ _ _ c.loop.counter c.args.limit c.loop.invariant (sym c.in-Ok-Stopped.ensures.answer
    ∙ c.in-Ok-Stopped.field-0-is) (omega arith)

pub returns-in-Ok-Stopped-clause-state : goal.returns-in-Ok-Stopped-clause-state
returns-in-Ok-Stopped-clause-state g c =
    stopped-state _ _ _ _ c.loop.counter c.args.limit c.loop.invariant c.step.new.self c.in-Ok-Stopped.ensures.state
    (sym c.in-Ok-Stopped.ensures.answer ∙ c.in-Ok-Stopped.field-0-is) (omega arith)

pub returns-in-Err-clause-err : goal.returns-in-Err-clause-err
returns-in-Err-clause-err g c = steps-begun _ _ _ _ c.loop.counter c.args.limit c.loop.invariant (omega arith)

pub loop-preserved : goal.loop-preserved
loop-preserved g c =
    next-steps _ _ _ _ c.loop.counter c.args.limit c.loop.invariant _ c.step.new.self c.in-Ok.ensures.state
    (answer-written _ _ _ _ _ _ c.pc-pc.ensures c.in-Ok.ensures.answer c.in_ok-write_answer-in-Ok.ensures.ok)
