use Rattle.bench_commands.proofs.StepsText.{AfterSteps}
use Rattle.bench_commands.proofs.steps.write_steps.Given as goal

abbrev pub invariant-loop : goal.invariant-loop
invariant-loop g l = AfterSteps (g.W.Write.contents l.fn.output.writer) (g.W.Write.contents l.output.writer)
    l.fn.machine l.machine l.counter
