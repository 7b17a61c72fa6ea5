use Rattle.std.proofs.Common.{◌≡◌, drop}
use Rattle.pmd.specs.Lending.{are_from, only_pass_lends}
use Rattle.pmd.proofs.lending.only_pass_lends.Given as goal

abbrev pub invariant-loop-entry : goal.invariant-loop-entry
invariant-loop-entry l =
    only_pass_lends l.pass (are_from l.first l.count) l.history
    ≡ only_pass_lends l.pass (are_from l.first l.count) (drop l.entry-index l.history)
