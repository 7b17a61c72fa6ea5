use Rattle.std.proofs.Common.{sym, refl, ap, ◌∙◌, Err}
use Rattle.std.proofs.lemmas.Fn.{gave_at}
use Rattle.std.proofs.lemmas.Result.{err_from_is_err_and}
use Rattle.program.proofs.instruction.Instruction.try_map.Goals as goal

pub returns-in_ok-string-in-Poke : goal.returns-in_ok-string-in-Poke
returns-in_ok-string-in-Poke g c to_label to_string by_label by_string =
    let given = sym (by_string _ _ (gave_at g.G.FnOnce c.string.ensures refl)) ∙ c.in_ok-string-in-Poke.was in
    rw c.in-Poke.is (rw given refl)

pub returns-in_err-string-in-Poke : goal.returns-in_err-string-in-Poke
returns-in_err-string-in-Poke g c to_label to_string by_label by_string =
    let given = sym (by_string _ _ (gave_at g.G.FnOnce c.string.ensures refl)) ∙ c.in_err-string-in-Poke.was in
    let returned = err_from_is_err_and c.from_residual.result c.from_residual.ensures.1 in
    rw c.in-Poke.is (rw given (returned.1 ∙ ap Err returned.2))

pub returns-in_ok-string-in-Arrive : goal.returns-in_ok-string-in-Arrive
returns-in_ok-string-in-Arrive g c to_label to_string by_label by_string =
    let given = sym (by_string _ _ (gave_at g.G.FnOnce c.string-in-Arrive.ensures refl))
    ∙ c.in_ok-string-in-Arrive.was in
    rw c.in-Arrive.is (rw given refl)

pub returns-in_err-string-in-Arrive : goal.returns-in_err-string-in-Arrive
returns-in_err-string-in-Arrive g c to_label to_string by_label by_string =
    let given = sym (by_string _ _ (gave_at g.G.FnOnce c.string-in-Arrive.ensures refl))
    ∙ c.in_err-string-in-Arrive.was in
    let returned = err_from_is_err_and
    c.from_residual-in_err-string-in-Arrive.result c.from_residual-in_err-string-in-Arrive.ensures.1 in
    rw c.in-Arrive.is (rw given (returned.1 ∙ ap Err returned.2))

pub returns-in_ok-label-in-JumpIfEqual : goal.returns-in_ok-label-in-JumpIfEqual
returns-in_ok-label-in-JumpIfEqual g c to_label to_string by_label by_string =
    let given = sym (by_label _ _ (gave_at g.F.FnOnce c.label.ensures refl)) ∙ c.in_ok-label-in-JumpIfEqual.was in
    rw c.in-JumpIfEqual.is (rw given refl)

pub returns-in_err-label-in-JumpIfEqual : goal.returns-in_err-label-in-JumpIfEqual
returns-in_err-label-in-JumpIfEqual g c to_label to_string by_label by_string =
    let given = sym (by_label _ _ (gave_at g.F.FnOnce c.label.ensures refl)) ∙ c.in_err-label-in-JumpIfEqual.was in
    let returned = err_from_is_err_and
    c.from_residual-in_err-label-in-JumpIfEqual.result c.from_residual-in_err-label-in-JumpIfEqual.ensures.1 in
    rw c.in-JumpIfEqual.is (rw given (returned.1 ∙ ap Err returned.2))

pub returns-in_ok-label-in-JumpUnlessEqual : goal.returns-in_ok-label-in-JumpUnlessEqual
returns-in_ok-label-in-JumpUnlessEqual g c to_label to_string by_label by_string =
    let given = sym (by_label _ _ (gave_at g.F.FnOnce c.label-in-JumpUnlessEqual.ensures refl))
    ∙ c.in_ok-label-in-JumpUnlessEqual.was in
    rw c.in-JumpUnlessEqual.is (rw given refl)

pub returns-in_err-label-in-JumpUnlessEqual : goal.returns-in_err-label-in-JumpUnlessEqual
returns-in_err-label-in-JumpUnlessEqual g c to_label to_string by_label by_string =
    let given = sym (by_label _ _ (gave_at g.F.FnOnce c.label-in-JumpUnlessEqual.ensures refl))
    ∙ c.in_err-label-in-JumpUnlessEqual.was in
    let returned = err_from_is_err_and
    c.from_residual-in_err-label-in-JumpUnlessEqual.result c.from_residual-in_err-label-in-JumpUnlessEqual.ensures.1 in
    rw c.in-JumpUnlessEqual.is (rw given (returned.1 ∙ ap Err returned.2))

pub returns-in_ok-label-in-Jump : goal.returns-in_ok-label-in-Jump
returns-in_ok-label-in-Jump g c to_label to_string by_label by_string =
    let given = sym (by_label _ _ (gave_at g.F.FnOnce c.label-in-Jump.ensures refl)) ∙ c.in_ok-label-in-Jump.was in
    rw c.in-Jump.is (rw given refl)

pub returns-in_err-label-in-Jump : goal.returns-in_err-label-in-Jump
returns-in_err-label-in-Jump g c to_label to_string by_label by_string =
    let given = sym (by_label _ _ (gave_at g.F.FnOnce c.label-in-Jump.ensures refl)) ∙ c.in_err-label-in-Jump.was in
    let returned = err_from_is_err_and
    c.from_residual-in_err-label-in-Jump.result c.from_residual-in_err-label-in-Jump.ensures.1 in
    rw c.in-Jump.is (rw given (returned.1 ∙ ap Err returned.2))
