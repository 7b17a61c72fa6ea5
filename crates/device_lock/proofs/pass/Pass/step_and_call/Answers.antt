use Rattle.std.proofs.Common.{refl}
use Rattle.device_lock.proofs.Stepped.{answer_after, full_again, made_after, none_after}
use Rattle.device_lock.proofs.pass.Pass.step_and_call.Goals as goal

pub returns-in-Ok-clause-made : goal.returns-in-Ok-clause-made
returns-in-Ok-clause-made g c =
    made_after c.args.queue c.args.event c.args.locked.now c.step_on.new.locked c.call.new.locked c.args.self.now
    c.step_on.new.self c.call.new.self c.in-Ok.ensures.made c.call.result c.call.ensures.made c.call.ensures.noted
    c.call.ensures.reply

pub returns-in-Ok-clause-reply : goal.returns-in-Ok-clause-reply
returns-in-Ok-clause-reply g c =
    answer_after c.args.queue c.args.event c.args.locked.now c.step_on.new.locked c.call.new.locked c.args.self.now
    c.step_on.new.self c.call.new.self c.in-Ok.ensures.made c.call.result c.call.ensures.reply

pub returns-in-Ok-clause-during : goal.returns-in-Ok-clause-during
returns-in-Ok-clause-during g c =
    none_after c.call.result c.args.queue c.args.locked.now c.step_on.new.locked c.call.new.locked c.args.self.now
    c.step_on.new.self c.call.new.self c.in-Ok.ensures.made c.call.ensures.unchanged

pub returns-in-Ok-clause-full : goal.returns-in-Ok-clause-full
returns-in-Ok-clause-full g c = λ same. record {
  held = c.step_on.new.locked;
  legal = c.call.ensures.led.legal;
  full = c.call.ensures.full same;
}

pub returns-in-Err-clause-full : goal.returns-in-Err-clause-full
returns-in-Err-clause-full g c = λ same.
    c.in-Err.ensures.full (full_again _ _ _ _ c.replace.ensures.fault refl same)
