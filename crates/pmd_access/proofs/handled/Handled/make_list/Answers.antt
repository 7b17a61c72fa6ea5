use Rattle.std.proofs.Common.{List, subst, ◌∙◌}
use Rattle.device_lock.specs.NicDevice.DmaArena.Block.{Block}
use Rattle.device_lock.specs.NicDevice.declared.event.Event.{Event}
use Rattle.pmd_access.specs.Scheduled.{IsMadeTo}
use Rattle.pmd_access.proofs.Making.{one_more}
use Rattle.pmd_access.proofs.handled.Handled.make_list.Goals as goal

pub loop-event-preserved : goal.loop-event-preserved
loop-event-preserved c = (
  one_more c.args.self.now c.loop-event.self c.make_foreign.new.self c.args.list.now.items c.pop_front.new.self.items
      c.in-Some.event
      (subst (λ (es : List (Event Block)). IsMadeTo c.args.self.now c.args.list.now.items c.loop-event.self es)
      c.in-Some.ensures.items c.loop-event.invariant.0)
      c.in_default-make_foreign.ensures.made,
  c.in_default-make_foreign.ensures.none ∙ c.loop-event.invariant.1,
  λ o began. c.in_default-make_foreign.ensures.began o (c.loop-event.invariant.2 o began),
)

pub returns-in-Err-clause-began : goal.returns-in-Err-clause-began
returns-in-Err-clause-began c o began = c.in-Err.ensures.began o (c.loop-event.invariant.2 o began)

pub returns-clause-began : goal.returns-clause-began
returns-clause-began c = c.loop-event.invariant.2
