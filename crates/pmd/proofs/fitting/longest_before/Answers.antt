use Rattle.std.proofs.Common.{arith, ◌≡◌, length, max, sym, ap, ◌∙◌}
use Rattle.pmd.specs.Fitting.{longest_after}
use Rattle.pmd.proofs.Walks.{known_here, known_last, known_there}
use Rattle.pmd.proofs.fitting.longest_before.Goals as goal

pub returns-then-is_first : goal.returns-then-is_first
returns-then-is_first c =
    sym (c.loop-entry.invariant
    ∙ known_here longest_after c.args.watched c.loop-entry.longest c.loop-entry.left c.args.history.now
    c.loop-entry.entry-index c.entry-item.result c.loop-entry-test.true (sym c.entry-item.is)
    (sym c.is_first.ensures ∙ c.if-is_first.true))

pub loop-entry-preserved : goal.loop-entry-preserved
loop-entry-preserved c =
    c.loop-entry.invariant
    ∙ known_there longest_after c.args.watched c.loop-entry.longest c.loop-entry.left c.args.history.now
    c.loop-entry.entry-index c.entry-item.result c.loop-entry-test.true (sym c.entry-item.is)
    (sym c.is_first.ensures ∙ c.if-is_first.false) c.max-longest.result c.still_left-left.result
    (c.max-longest.ensures ∙ ap (max c.loop-entry.longest) c.let_in_by.ensures) c.still_left-left.ensures

pub returns : goal.returns
returns c =
    let all : c.loop-entry.entry-index ≡ length c.args.history.now =
    omega (arith, c.loop-entry-test.false, c.loop-entry.auto.entry-index-end) in
    sym (c.loop-entry.invariant
    ∙ known_last longest_after c.args.watched c.loop-entry.longest c.loop-entry.left c.args.history.now
    c.loop-entry.entry-index all)
