use Rattle.std.proofs.Common.{sym, ◌∙◌}
use Rattle.std.proofs.lemmas.Result.{err_from_is_err_and}
use Rattle.text_format.specs.Lines.{line_of}
use Rattle.script_asm.proofs.Lines.{with_lines-added, with_lines-stopped, with_lines-ended}
use Rattle.script_asm.proofs.assembly.read_sheet.Goals as goal

pub loop-line-preserved : goal.loop-line-preserved
loop-line-preserved c =
    sym (with_lines-added _ _ _ (line_of c.in-Some.line) _ c.in-Some.ensures.steps c.in_ok-add_line.ensures)
    ∙ c.loop-line.invariant

pub returns-in_err-add_line : goal.returns-in_err-add_line
returns-in_err-add_line c =
    let returned = err_from_is_err_and c.from_residual.result c.from_residual.ensures.1 in
    rw (returned.1, returned.2) (λ other. sym c.loop-line.invariant
    ∙ with_lines-stopped _ _ _ (line_of c.in-Some.line) _ c.in-Some.ensures.steps (c.in_err-add_line.ensures other))

pub returns : goal.returns
returns c = sym c.loop-line.invariant ∙ with_lines-ended _ _ c.in-None.ensures.steps.0
