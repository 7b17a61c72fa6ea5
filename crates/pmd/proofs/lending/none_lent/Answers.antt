use Rattle.std.proofs.Common.{arith, ◌≡◌, ◌<◌, ◌+◌, sym, ap, ◌∙◌}
use Rattle.pmd_driver.specs.DeviceLock.Watching.{marked}
use Rattle.pmd_driver.proofs.DeviceLock.Walks.{none_first, none_here, none_there, none_left}
use Rattle.pmd.proofs.lending.none_lent.Goals as goal

pub loop-after-init : goal.loop-after-init
loop-after-init c = none_first (marked c.args.lent.now) c.args.first c.args.count

pub returns-then-is_lent : goal.returns-then-is_lent
returns-then-is_lent c =
    let lt : c.loop-after.after < c.args.count = omega (arith, c.from-after-end.ensures, c.loop-after-test.true) in
    sym (c.loop-after.invariant
    ∙ none_here (marked c.args.lent.now) c.args.first c.loop-after.after c.args.count lt
    (ap (λ n. marked c.args.lent.now (n + c.loop-after.after)) (sym c.from-first.ensures)
    ∙ sym c.is_lent.ensures ∙ c.if-is_lent.true))

pub loop-after-preserved : goal.loop-after-preserved
loop-after-preserved c =
    let lt : c.loop-after.after < c.args.count = omega (arith, c.from-after-end.ensures, c.loop-after-test.true) in
    c.loop-after.invariant
    ∙ none_there (marked c.args.lent.now) c.args.first c.loop-after.after c.args.count lt
    (ap (λ n. marked c.args.lent.now (n + c.loop-after.after)) (sym c.from-first.ensures)
    ∙ sym c.is_lent.ensures ∙ c.if-is_lent.false)

pub returns : goal.returns
returns c =
    let all : c.loop-after.after ≡ c.args.count =
    omega (arith, c.from-after-end.ensures, c.loop-after-test.false, c.loop-after.auto.after-end) in
    sym (c.loop-after.invariant
    ∙ rw all (none_left (marked c.args.lent.now) (c.args.first + c.args.count) c.args.count))
