use Rattle.std.proofs.Common.{List, ap, ◌∙◌}
use Rattle.device_lock.specs.declared.entry.Call.{Call}
use Rattle.pmd_access.specs.Made.{InHand}
use Rattle.pmd_access.proofs.Refusals.{on_err}
use Rattle.pmd_access.proofs.Stepping.{two_made, three_made}
use Rattle.pmd_access.proofs.direct.Direct.step_on.Goals as goal

pub returns-in_err-make_step-3-clause-refused : goal.returns-in_err-make_step-3-clause-refused
returns-in_err-make_step-3-clause-refused c =
    let start : List Call → InHand =
    λ calls. record { device = c.self.inside.device; queue = c.self.inside.queue; calls = calls } in
    on_err _
    (two_made c.args.self.now (start c.rest.new.self) c.make_step.new.self c.make_step-2.new.self c.args.queue
    (ap start (c.rest.ensures.unchanged c.if-rest.false) ∙ c.self.view_is) c.requires
    c.in_ok-make_step.ensures.made c.in_ok-make_step-2.ensures.made
    c.make_step-3.new.self c.in_err-make_step-3.ensures.unchanged)

pub returns-in_err-make_step-4-clause-refused : goal.returns-in_err-make_step-4-clause-refused
returns-in_err-make_step-4-clause-refused c =
    let start : List Call → InHand =
    λ calls. record { device = c.self.inside.device; queue = c.self.inside.queue; calls = calls } in
    on_err _
    (three_made c.args.self.now (start c.rest.new.self) c.make_step.new.self c.make_step-2.new.self c.args.queue
    (ap start (c.rest.ensures.unchanged c.if-rest.false) ∙ c.self.view_is) c.requires
    c.in_ok-make_step.ensures.made c.in_ok-make_step-2.ensures.made c.make_step-3.new.self
    c.make_step-4.new.self c.in_ok-make_step-3.ensures.made c.in_err-make_step-4.ensures.unchanged)
