use Rattle.std.proofs.Common.{drop}
use Rattle.bench_commands.proofs.Sessions.{IsDuring}
use Rattle.bench_commands.proofs.session.do_commands.Given as goal

abbrev pub invariant-loop-command : goal.invariant-loop-command
invariant-loop-command g l = IsDuring (g.W.Write.contents l.fn.output.writer) (g.W.Write.contents l.output.writer)
    l.fn.debugger l.debugger l.commands (drop l.command-index l.commands)
