use Rattle.std.proofs.Common.{arith, ◌≡◌, length, sym, ap, ◌∙◌}
use Rattle.pmd_driver.specs.DeviceLock.Watching.{marked, none_of}
use Rattle.pmd_driver.proofs.DeviceLock.Walks.{none_marked}
use Rattle.pmd.specs.Before.{holds_of, known_before}
use Rattle.pmd.specs.Lending.{lent_after}
use Rattle.pmd.proofs.Walks.{known_here, known_last, known_there}
use Rattle.pmd.proofs.lending.none_lent_before.Goals as goal

pub loop-entry-init : goal.loop-entry-init
loop-entry-init c =
    ap (λ lent. known_before lent_after c.args.watched lent c.args.from c.args.history.now)
    (λ i number. sym (none_marked 65536 number) i)

pub returns-then-is_first : goal.returns-then-is_first
returns-then-is_first c =
    c.none_lent.ensures
    ∙ ap (holds_of (λ lent. none_of lent c.args.first c.args.count))
    (sym (c.loop-entry.invariant
    ∙ known_here lent_after c.args.watched (marked c.loop-entry.lent) c.loop-entry.left c.args.history.now
    c.loop-entry.entry-index c.entry-item.result c.loop-entry-test.true (sym c.entry-item.is)
    (sym c.is_first.ensures ∙ c.if-is_first.true)))

pub loop-entry-preserved : goal.loop-entry-preserved
loop-entry-preserved c =
    c.loop-entry.invariant
    ∙ known_there lent_after c.args.watched (marked c.loop-entry.lent) c.loop-entry.left c.args.history.now
    c.loop-entry.entry-index c.entry-item.result c.loop-entry-test.true (sym c.entry-item.is)
    (sym c.is_first.ensures ∙ c.if-is_first.false) (marked c.note_lent.new.lent) c.still_left-left.result
    (λ i number. c.note_lent.ensures number i) c.still_left-left.ensures

pub returns : goal.returns
returns c =
    let all : c.loop-entry.entry-index ≡ length c.args.history.now =
    omega (arith, c.loop-entry-test.false, c.loop-entry.auto.entry-index-end) in
    ap (holds_of (λ lent. none_of lent c.args.first c.args.count))
    (sym (c.loop-entry.invariant
    ∙ known_last lent_after c.args.watched (marked c.loop-entry.lent) c.loop-entry.left c.args.history.now
    c.loop-entry.entry-index all))
