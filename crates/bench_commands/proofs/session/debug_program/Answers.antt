use Rattle.std.proofs.Common.{rules, ◌<◌, ◌≤◌}
use Rattle.nic_device.specs.Config.{IsBadFifo}
use Rattle.bench_commands.proofs.Giving.{gives-same}
use Rattle.bench_commands.proofs.Runs.{bad-fifo, too-many-vfs}
use Rattle.bench_commands.proofs.session.debug_program.Goals as goal

pub returns-in-TooManyVfs : goal.returns-in-TooManyVfs
returns-in-TooManyVfs g c =
    let many : 63 < c.args.config.vfs = search rules in
    gives-same _ _ _ c.write_refusal.result _ _ (too-many-vfs c.args.config _ many)
    (rw (c.named.ensures.name, c.named.ensures.number) at c.write_refusal.ensures.gives)

pub returns-in-Fifo : goal.returns-in-Fifo
returns-in-Fifo g c =
    let few : c.args.config.vfs ≤ 63 = search rules in
    let bad : IsBadFifo c.args.config.fifo = search rules in
    gives-same _ _ _ c.write_refusal-in-Fifo.result _ _ (bad-fifo c.args.config _ few bad)
    (rw (c.named-in-Fifo.ensures.name, c.named-in-Fifo.ensures.number) at c.write_refusal-in-Fifo.ensures.gives)
