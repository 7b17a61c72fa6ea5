use Rattle.device_lock.proofs.Stepped.{all_made, none_stopped, on_err, passed_on, stopped, three_made, two_made}
use Rattle.device_lock.proofs.pass.Pass.make_steps.Goals as goal

pub returns-in_err-make_step-clause-during : goal.returns-in_err-make_step-clause-during
returns-in_err-make_step-clause-during g c =
    on_err _
    (none_stopped c.args.locked.now c.make_step.new.locked c.args.self.now c.make_step.new.self c.args.queue
    c.in_err-make_step.ensures.unchanged)

pub returns-in_err-make_step-2-clause-during : goal.returns-in_err-make_step-2-clause-during
returns-in_err-make_step-2-clause-during g c =
    on_err _
    (stopped c.args.locked.now c.make_step.new.locked c.make_step-2.new.locked c.args.self.now c.make_step.new.self
    c.make_step-2.new.self c.args.queue 1 c.in_ok-make_step.ensures.made c.in_err-make_step-2.ensures.unchanged)

pub returns-in_err-make_step-3-clause-during : goal.returns-in_err-make_step-3-clause-during
returns-in_err-make_step-3-clause-during g c =
    on_err _
    (stopped c.args.locked.now c.make_step-2.new.locked c.make_step-3.new.locked c.args.self.now c.make_step-2.new.self
    c.make_step-3.new.self c.args.queue 2
    (two_made c.args.locked.now c.make_step.new.locked c.make_step-2.new.locked c.args.self.now c.make_step.new.self
    c.make_step-2.new.self _ _ c.in_ok-make_step.ensures.made c.in_ok-make_step-2.ensures.made)
    c.in_err-make_step-3.ensures.unchanged)

pub returns-in_err-make_step-4-clause-during : goal.returns-in_err-make_step-4-clause-during
returns-in_err-make_step-4-clause-during g c =
    on_err _
    (stopped c.args.locked.now c.make_step-3.new.locked c.make_step-4.new.locked c.args.self.now c.make_step-3.new.self
    c.make_step-4.new.self c.args.queue 3
    (three_made c.args.locked.now c.make_step.new.locked c.make_step-2.new.locked c.make_step-3.new.locked
    c.args.self.now c.make_step.new.self c.make_step-2.new.self c.make_step-3.new.self _ _ _
    c.in_ok-make_step.ensures.made c.in_ok-make_step-2.ensures.made c.in_ok-make_step-3.ensures.made)
    c.in_err-make_step-4.ensures.unchanged)

pub returns-clause-made : goal.returns-clause-made
returns-clause-made g c =
    all_made c.args.locked.now c.make_step.new.locked c.make_step-2.new.locked c.make_step-3.new.locked
    c.make_step-4.new.locked c.args.self.now c.make_step.new.self c.make_step-2.new.self c.make_step-3.new.self
    c.make_step-4.new.self c.args.queue
    c.in_ok-make_step.ensures.made c.in_ok-make_step-2.ensures.made c.in_ok-make_step-3.ensures.made
    c.in_ok-make_step-4.ensures.made

pub returns-in_err-make_step-clause-full : goal.returns-in_err-make_step-clause-full
returns-in_err-make_step-clause-full g c = λ same.
    c.in_err-make_step.ensures.full
    (passed_on c.from_residual.result c.in_err-make_step.field-0.0 _ c.from_residual.ensures.1 same)

pub returns-in_err-make_step-2-clause-full : goal.returns-in_err-make_step-2-clause-full
returns-in_err-make_step-2-clause-full g c = λ same.
    c.in_err-make_step-2.ensures.full
    (passed_on c.from_residual-in_err-make_step-2.result c.in_err-make_step-2.field-0.0 _
    c.from_residual-in_err-make_step-2.ensures.1 same)

pub returns-in_err-make_step-3-clause-full : goal.returns-in_err-make_step-3-clause-full
returns-in_err-make_step-3-clause-full g c = λ same.
    c.in_err-make_step-3.ensures.full
    (passed_on c.from_residual-in_err-make_step-3.result c.in_err-make_step-3.field-0.0 _
    c.from_residual-in_err-make_step-3.ensures.1 same)

pub returns-in_err-make_step-4-clause-full : goal.returns-in_err-make_step-4-clause-full
returns-in_err-make_step-4-clause-full g c = λ same.
    c.in_err-make_step-4.ensures.full
    (passed_on c.from_residual-in_err-make_step-4.result c.in_err-make_step-4.field-0.0 _
    c.from_residual-in_err-make_step-4.ensures.1 same)
