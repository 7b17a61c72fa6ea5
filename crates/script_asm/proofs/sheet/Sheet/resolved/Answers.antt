use Rattle.std.proofs.Common.{rules, sym, ◌∙◌, ap, Err}
use Rattle.std.proofs.lemmas.Result.{err_from_is_err_and}
use Rattle.script_asm.specs.Fault.{◌then◌}
use Rattle.script_asm.specs.Resolved.{label_named, data_named, fitting}
use Rattle.script_asm.proofs.sheet.Sheet.resolved.Goals as goal

pub returns-in_err-instruction : goal.returns-in_err-instruction
returns-in_err-instruction c =
    let named = c.try_map.ensures (label_named c.args.self.now c.args.line) (data_named c.args.self.now c.args.line)
    (λ name found given. search rules) (λ name found given. search rules) in
    let returned = err_from_is_err_and c.from_residual.result c.from_residual.ensures.1 in
    returned.1 ∙ ap Err returned.2
    ∙ ap (λ i. i then fitting c.args.self.now c.args.line) (sym c.in_err-instruction.was ∙ named)

pub returns : goal.returns
returns c =
    let named = c.try_map.ensures (label_named c.args.self.now c.args.line) (data_named c.args.self.now c.args.line)
    (λ name found given. search rules) (λ name found given. search rules) in
    c.fitting.ensures ∙ ap (λ i. i then fitting c.args.self.now c.args.line) (sym c.in_ok-instruction.was ∙ named)
