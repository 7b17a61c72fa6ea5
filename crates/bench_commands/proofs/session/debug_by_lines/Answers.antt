use Rattle.std.proofs.Common.{ap, Err}
use Rattle.bench_commands.proofs.Giving.{gives-same}
use Rattle.bench_commands.proofs.Sessions.{faulty-command}
use Rattle.bench_commands.proofs.session.debug_by_lines.Goals as goal

pub returns-in-Err-Syntax : goal.returns-in-Err-Syntax
returns-in-Err-Syntax g c =
    gives-same _ _ _ c.write_refusal.result _ _
    (faulty-command c.args.config c.args.program _ c.in-Err-Syntax.line
    (c.in-Err-Syntax.ensures.syntax c.in-Err-Syntax.line (ap Err c.in-Err-Syntax.field-0-is)))
    (rw (c.numbered.ensures.name, c.numbered.ensures.number, c.in-Err-Syntax.line-is) at
    c.write_refusal.ensures.gives)
