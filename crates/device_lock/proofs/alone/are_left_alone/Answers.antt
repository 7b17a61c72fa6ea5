use Rattle.std.proofs.Common.{arith, ◌≡◌, length, refl, sym, ◌∙◌}
use Rattle.device_lock.specs.Watching.{marked}
use Rattle.device_lock.proofs.Walks.{rest_here, rest_there, rest_last}
use Rattle.device_lock.proofs.alone.are_left_alone.Goals as goal

pub loop-entry-init : goal.loop-entry-init
loop-entry-init c = refl

pub returns-then-not-passes : goal.returns-then-not-passes
returns-then-not-passes c =
    sym (c.loop-entry.invariant
    ∙ rest_here c.args.watched (marked c.args.blocks.now) c.loop-entry.mode c.loop-entry.begun c.args.history.now
    c.loop-entry.entry-index c.entry-item.result c.loop-entry-test.true (sym c.entry-item.is)
    (sym c.passes.ensures ∙ c.if-not-passes.true))

pub loop-entry-preserved : goal.loop-entry-preserved
loop-entry-preserved c =
    c.loop-entry.invariant
    ∙ rest_there c.args.watched (marked c.args.blocks.now) c.loop-entry.mode c.loop-entry.begun c.args.history.now
    c.loop-entry.entry-index c.entry-item.result c.loop-entry-test.true (sym c.entry-item.is)
    (sym c.passes.ensures ∙ c.if-not-passes.false) c.mode_after-mode.result c.has_begun-begun.result
    c.mode_after-mode.ensures c.has_begun-begun.ensures

pub returns : goal.returns
returns c =
    let all : c.loop-entry.entry-index ≡ length c.args.history.now =
    omega (arith, c.loop-entry-test.false, c.loop-entry.auto.entry-index-end) in
    sym (c.loop-entry.invariant
    ∙ rest_last c.args.watched (marked c.args.blocks.now) c.loop-entry.mode c.loop-entry.begun c.args.history.now
    c.loop-entry.entry-index all)
