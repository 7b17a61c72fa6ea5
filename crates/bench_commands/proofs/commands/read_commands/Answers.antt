use Rattle.std.proofs.Common.{Err, sym, ap, ◌∙◌, ◌≡◌}
use Rattle.std.proofs.lemmas.Result.{err_from_is_err_and}
use Rattle.text_format.specs.Lines.{line_of}
use Rattle.bench_commands.specs.declared.commands.CommandFault.TheVariants.{Syntax}
use Rattle.bench_commands.specs.Command.{commands_of, commands_then}
use Rattle.bench_commands.proofs.CommandLines.{commands_of-line, commands_of-none, then-none, then-refused}
use Rattle.bench_commands.proofs.commands.read_commands.Goals as goal

pub loop-line-preserved : goal.loop-line-preserved
loop-line-preserved c =
    sym (c.in_ok-add_line.ensures.ok (commands_of c.next.new.self))
    ∙ ap (commands_then c.loop-line.commands.items)
    (sym (commands_of-line c.loop-line.line-iterator (line_of c.in-Some.line) c.next.new.self
    c.in-Some.ensures.steps))
    ∙ c.loop-line.invariant

pub returns-in_err-add_line-clause-syntax : goal.returns-in_err-add_line-clause-syntax
returns-in_err-add_line-clause-syntax c =
    let returned = err_from_is_err_and c.from_residual.result c.from_residual.ensures.1 in
    rw (returned.1, returned.2) (λ n is. let fault : c.in_err-add_line.field-0.0 ≡ Syntax n = cc in
    sym c.loop-line.invariant ∙ then-refused c.loop-line.commands.items _ n
    (commands_of-line c.loop-line.line-iterator (line_of c.in-Some.line) c.next.new.self c.in-Some.ensures.steps
    ∙ c.in_err-add_line.ensures.syntax n (ap Err fault) (commands_of c.next.new.self)))

pub returns-clause-ok : goal.returns-clause-ok
returns-clause-ok c =
    sym c.loop-line.invariant ∙ then-none c.loop-line.commands.items _
    (commands_of-none c.loop-line.line-iterator c.in-None.ensures.steps.0)
