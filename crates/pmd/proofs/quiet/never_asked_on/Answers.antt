use Rattle.std.proofs.Common.{sym, ◌∙◌}
use Rattle.pmd.proofs.Asked.{never_decides}
use Rattle.pmd.proofs.quiet.never_asked_on.Goals as goal

pub returns-in-Some : goal.returns-in-Some
returns-in-Some c =
    never_decides c.args.watched c.args.from c.args.history.now _ (sym c.in-Some.is ∙ c.reported_before.ensures)

pub returns-in-None : goal.returns-in-None
returns-in-None c =
    never_decides c.args.watched c.args.from c.args.history.now _ (sym c.in-None.is ∙ c.reported_before.ensures)
