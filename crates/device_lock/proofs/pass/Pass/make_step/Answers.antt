use Rattle.device_lock.proofs.Stepped.{full_again}
use Rattle.device_lock.proofs.pass.Pass.make_step.Goals as goal

pub returns-in-None-into_buf-clause-full : goal.returns-in-None-into_buf-clause-full
returns-in-None-into_buf-clause-full g c = λ same. record {
  held = c.idle_locked.new.locked;
  legal = c.in-Err.ensures.led.legal;
  full = c.in-Err.ensures.full (full_again _ _ _ _ c.replace-fault.ensures.fault c.in-Err.ensures.back same);
}
