use Rattle.std.proofs.Common.{arith, ◌≡◌, ◌||◌, length, sym, ap, ◌∙◌}
use Rattle.device_lock.specs.declared.entry.Entry.{Entry}
use Rattle.device_lock.specs.Alone.{lent_in, lent_by}
use Rattle.device_lock.specs.Watching.{marked}
use Rattle.device_lock.proofs.Walks.{none_marked, lent_next, lent_last}
use Rattle.device_lock.proofs.alone.lent_by.Goals as goal

pub loop-entry-init : goal.loop-entry-init
loop-entry-init c = λ number. ap (λ b. b || lent_by c.args.pass c.args.history.now number) (none_marked 65536 number)

pub loop-entry-preserved : goal.loop-entry-preserved
loop-entry-preserved c = λ number.
    lent_next c.args.pass c.args.history.now c.loop-entry.entry-index c.entry-item.result
    (marked c.loop-entry.blocks number) (marked c.mark.new.blocks number) number c.loop-entry-test.true
    (c.mark.ensures number
    ∙ ap (λ (e : Entry). marked c.loop-entry.blocks number || lent_in c.args.pass e number) c.entry-item.is)
    ∙ c.loop-entry.invariant number

pub returns : goal.returns
returns c = λ number.
    let all : c.loop-entry.entry-index ≡ length c.args.history.now =
    omega (arith, c.loop-entry-test.false, c.loop-entry.auto.entry-index-end) in
    sym (lent_last c.args.pass c.args.history.now c.loop-entry.entry-index (marked c.loop-entry.blocks number) number
    all)
    ∙ c.loop-entry.invariant number
