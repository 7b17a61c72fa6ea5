use Rattle.std.proofs.Common.{◌≡◌}
use Rattle.bench_commands.specs.Command.{commands_of, commands_then}
use Rattle.bench_commands.proofs.commands.read_commands.Given as goal

-- The commands so far, followed by the commands of the remaining lines, are the commands of all lines.
abbrev pub invariant-loop-line : goal.invariant-loop-line
invariant-loop-line l = commands_then l.commands.items (commands_of l.line-iterator) ≡ commands_of l.fn.lines
