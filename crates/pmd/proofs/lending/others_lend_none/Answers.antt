use Rattle.std.proofs.Common.{true, false, refl, sym, ◌∙◌, subst}
use Rattle.std.specs.Prelude.{IsTrue, ◌↔◌}
use Rattle.pmd.specs.Lending.{OthersLendNone, are_from}
use Rattle.pmd.proofs.OthersLend.{others_decide}
use Rattle.pmd.proofs.lending.others_lend_none.Goals as goal

pub returns-then-only_pass_lends : goal.returns-then-only_pass_lends
returns-then-only_pass_lends c =
    others_decide c.args.watched c.args.from c.args.first c.args.count c.args.history.now true c.none_lent_before.result
    (sym c.if-only_pass_lends.true ∙ c.only_pass_lends.ensures) c.none_lent_before.ensures

pub returns-else-only_pass_lends : goal.returns-else-only_pass_lends
returns-else-only_pass_lends c =
    subst
    (λ b. IsTrue b ↔ OthersLendNone c.args.watched c.args.from (are_from c.args.first c.args.count) c.args.history.now)
    (sym c.if-only_pass_lends.false)
    (others_decide c.args.watched c.args.from c.args.first c.args.count c.args.history.now false _
    (sym c.if-only_pass_lends.false ∙ c.only_pass_lends.ensures) refl)
