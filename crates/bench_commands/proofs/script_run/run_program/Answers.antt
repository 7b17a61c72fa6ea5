use Rattle.std.proofs.Common.{rules, ◌<◌, ◌≤◌}
use Rattle.nic_device.specs.Config.{IsBadFifo}
use Rattle.bench_commands.specs.Run.{config_of}
use Rattle.bench_commands.proofs.Giving.{gives-same}
use Rattle.bench_commands.proofs.Runs.{bad-fifo, too-many-vfs}
use Rattle.bench_commands.proofs.script_run.run_program.Goals as goal

pub returns-in-TooManyVfs : goal.returns-in-TooManyVfs
returns-in-TooManyVfs g c =
    let many : 63 < c.args.options.vfs = search rules in
    gives-same _ _ _ c.write_refusal.result _ _ (too-many-vfs (config_of c.args.options) _ many)
    (rw (c.named.ensures.name, c.named.ensures.number) at c.write_refusal.ensures.gives)

pub returns-in-Fifo : goal.returns-in-Fifo
returns-in-Fifo g c =
    let few : c.args.options.vfs ≤ 63 = search rules in
    let bad : IsBadFifo c.args.options.fifo = search rules in
    gives-same _ _ _ c.write_refusal-in-Fifo.result _ _ (bad-fifo (config_of c.args.options) _ few bad)
    (rw (c.named-in-Fifo.ensures.name, c.named-in-Fifo.ensures.number) at c.write_refusal-in-Fifo.ensures.gives)
