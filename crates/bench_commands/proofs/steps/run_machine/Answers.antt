use Rattle.machine.specs.Machine.{machine_at}
use Rattle.bench_commands.specs.Run.{end_of}
use Rattle.bench_commands.proofs.Giving.{gives-after}
use Rattle.bench_commands.proofs.steps.run_machine.Goals as goal

pub returns : goal.returns
returns g c =
    gives-after _ _ _ _ c.write_end.result _
    (end_of (machine_at c.args.machine.now.program c.args.machine.now.config c.args.limit))
    c.in_ok-write_steps.ensures.text (rw c.in_ok-write_steps.ensures.state at c.write_end.ensures)
