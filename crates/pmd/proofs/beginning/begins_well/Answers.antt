use Rattle.std.proofs.Common.{sym, ◌∙◌}
use Rattle.pmd.proofs.WellBegun.{begins_decides}
use Rattle.pmd.proofs.beginning.begins_well.Goals as goal

pub returns-in-Some : goal.returns-in-Some
returns-in-Some c =
    let decides =
    begins_decides c.args.watched c.args.from c.args.given c.args.history.now _
    (sym c.in-Some.is ∙ c.reported_before.ensures) in
    ((λ is. decides.0 (sym c.begins.ensures ∙ is)), λ well. c.begins.ensures ∙ decides.1 well)

pub returns-in-None : goal.returns-in-None
returns-in-None c =
    begins_decides c.args.watched c.args.from c.args.given c.args.history.now _
    (sym c.in-None.is ∙ c.reported_before.ensures)
