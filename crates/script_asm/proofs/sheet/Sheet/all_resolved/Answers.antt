use Rattle.std.proofs.Common.{sym, ◌∙◌}
use Rattle.std.proofs.lemmas.Result.{err_from_is_err_and}
use Rattle.script_asm.proofs.Resolving.{with_resolved-added, with_resolved-stopped, with_resolved-ended}
use Rattle.script_asm.proofs.sheet.Sheet.all_resolved.Goals as goal

pub loop-draft-preserved : goal.loop-draft-preserved
loop-draft-preserved c =
    sym (with_resolved-added c.args.self.now c.loop-draft.instructions.items c.push_resolved.new.instructions.items
    c.args.drafts.now
    c.draft-item.result c.loop-draft.draft-index c.loop-draft-test.true c.draft-item.is c.in_ok-push_resolved.ensures)
    ∙ c.loop-draft.invariant

pub returns-in_err-push_resolved : goal.returns-in_err-push_resolved
returns-in_err-push_resolved c =
    let returned = err_from_is_err_and c.from_residual.result c.from_residual.ensures.1 in
    rw (returned.1, returned.2) (λ other. sym c.loop-draft.invariant
    ∙ with_resolved-stopped c.args.self.now c.loop-draft.instructions.items _ c.args.drafts.now c.draft-item.result
    c.loop-draft.draft-index
    c.loop-draft-test.true c.draft-item.is (c.in_err-push_resolved.ensures other))

pub returns : goal.returns
returns c =
    sym c.loop-draft.invariant ∙ with_resolved-ended c.args.self.now c.loop-draft.instructions.items c.args.drafts.now
    c.loop-draft.draft-index c.loop-draft-test.false
