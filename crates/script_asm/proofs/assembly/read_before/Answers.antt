use Rattle.std.proofs.Common.{sym, ◌∙◌}
use Rattle.std.proofs.lemmas.Result.{err_from_is_err_and}
use Rattle.text_format.specs.Lines.{line_of}
use Rattle.script_asm.proofs.Cuts.{before-added, before-ended, before-none, before-stopped, past-next, end-next}
use Rattle.script_asm.proofs.assembly.read_before.Goals as goal

pub returns-then-is_only-clause-sheet : goal.returns-then-is_only-clause-sheet
returns-then-is_only-clause-sheet c =
    sym c.script.invariant.said
    ∙ before-ended c.args.end.now _ (line_of c.in-Some.line) _ c.in-Some.ensures.steps _
    (sym c.is_only.ensures ∙ c.if-is_only.true)

pub script-preserved : goal.script-preserved
script-preserved c =
    let other = sym c.is_only.ensures ∙ c.if-is_only.false in
    record {
      said = sym (before-added c.args.end.now _ (line_of c.in-Some.line) _ c.in-Some.ensures.steps other _ _
          c.in_ok-add_line.ensures)
          ∙ c.script.invariant.said;
      ended = sym (end-next c.args.end.now _ (line_of c.in-Some.line) _ c.in-Some.ensures.steps other)
          ∙ c.script.invariant.ended;
      after = sym (past-next c.args.end.now _ (line_of c.in-Some.line) _ c.in-Some.ensures.steps other)
          ∙ c.script.invariant.after;
    }

pub returns-in_err-add_line-clause-sheet : goal.returns-in_err-add_line-clause-sheet
returns-in_err-add_line-clause-sheet c =
    let returned = err_from_is_err_and c.from_residual.result c.from_residual.ensures.1 in
    rw (returned.1, returned.2) (λ memory. sym c.script.invariant.said
    ∙ before-stopped c.args.end.now _ (line_of c.in-Some.line) _ c.in-Some.ensures.steps
    (sym c.is_only.ensures ∙ c.if-is_only.false) _ _ (c.in_err-add_line.ensures memory))

pub returns-clause-sheet : goal.returns-clause-sheet
returns-clause-sheet c =
    sym c.script.invariant.said ∙ before-none c.args.end.now _ _ c.in_default.ensures.steps.0
