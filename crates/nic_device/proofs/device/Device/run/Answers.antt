use Rattle.std.proofs.Common.{◌≡◌, ◌<◌, ◌+◌, ◌++◌, length, [], ◌∷◌, arith, sym, ap, ◌∙◌, length-append, take}
use Rattle.nic_device.specs.Run.{replies_of}
use Rattle.nic_device.specs.Step.{step_of}
use Rattle.nic_device.proofs.Lists.{popped, replies_more, state_more}
use Rattle.nic_device.proofs.device.Device.run.Goals as goal

pub loop-event-preserved : goal.loop-event-preserved
loop-event-preserved c =
    let all = c.args.events.items in
    let n = length c.loop-event.replies.items in
    let left : length c.loop-event.events.items
    ≡ length c.pop.new.self.items + 1 = simp length-append at (ap length c.in-Some.ensures.items) in
    let h : n < length all = omega arith in
    let p = popped all n c.pop.new.self.items c.in-Some.event h
    (sym c.loop-event.invariant.rest ∙ c.in-Some.ensures.items) in
    let r = replies_more c.args.self.now all n c.in-Some.event h p.0 in
    let s = state_more c.args.self.now all n c.in-Some.event h p.0 in
    let one : length c.push.new.self.items ≡ n + 1 = simp length-append at (ap length c.in-Ok-push.ensures.items) in
    record {
      rest = rw one p.1;
      few = omega arith;
      replies = rw one (c.in-Ok-push.ensures.items
          ∙ ap (λ rs. rs ++ c.in-Ok-step.reply ∷ []) c.loop-event.invariant.replies
          ∙ ap (λ x. replies_of c.args.self.now (take n all) ++ x ∷ [])
          (c.in-Ok-step.ensures.reply ∙ ap (λ x. (step_of x c.in-Some.event).reply) c.loop-event.invariant.state)
          ∙ sym r);
      state = rw one (c.in-Ok-step.ensures.state
          ∙ ap (λ x. (step_of x c.in-Some.event).state) c.loop-event.invariant.state ∙ sym s);
      room = omega arith;
    }
