use Rattle.device_lock.proofs.shared.Shared.call.Goals as goal

pub returns-clause-full : goal.returns-clause-full
returns-clause-full g c = λ full. record {
  held = c.deref_mut.result.now;
  legal = c.call.ensures.led.legal;
  full = c.call.ensures.full full;
}
