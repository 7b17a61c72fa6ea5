use Rattle.std.proofs.Common.{arith, ◌≡◌, length, refl, sym, ◌∙◌}
use Rattle.pmd.specs.Before.{reported_after_entry}
use Rattle.pmd.proofs.Walks.{known_here, known_last, known_there}
use Rattle.pmd.proofs.before.reported_before.Goals as goal

pub loop-entry-init : goal.loop-entry-init
loop-entry-init c = rw c.new-reported.ensures refl

pub returns-then-is_first : goal.returns-then-is_first
returns-then-is_first c =
    sym (c.loop-entry.invariant
    ∙ known_here (reported_after_entry c.args.watched) c.args.watched c.loop-entry.reported c.loop-entry.left
    c.args.history.now
    c.loop-entry.entry-index c.entry-item.result c.loop-entry-test.true (sym c.entry-item.is)
    (sym c.is_first.ensures ∙ c.if-is_first.true))

pub loop-entry-preserved : goal.loop-entry-preserved
loop-entry-preserved c =
    c.loop-entry.invariant
    ∙ known_there (reported_after_entry c.args.watched) c.args.watched c.loop-entry.reported c.loop-entry.left
    c.args.history.now c.loop-entry.entry-index c.entry-item.result c.loop-entry-test.true (sym c.entry-item.is)
    (sym c.is_first.ensures ∙ c.if-is_first.false) c.after-reported.result c.still_left-left.result
    c.after-reported.ensures c.still_left-left.ensures

pub returns : goal.returns
returns c =
    let all : c.loop-entry.entry-index ≡ length c.args.history.now =
    omega (arith, c.loop-entry-test.false, c.loop-entry.auto.entry-index-end) in
    sym (c.loop-entry.invariant
    ∙ known_last (reported_after_entry c.args.watched) c.args.watched c.loop-entry.reported c.loop-entry.left
    c.args.history.now
    c.loop-entry.entry-index all)
