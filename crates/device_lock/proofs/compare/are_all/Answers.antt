use Rattle.device_lock.proofs.compare.are_all.Goals as goal

pub returns-then-are_own : goal.returns-then-are_own
returns-then-are_own c = (
  λ once. record { own = c.are_own.ensures.0 c.if-are_own.true; once = c.is_each_once.ensures.0 once },
  λ all. c.is_each_once.ensures.1 all.once,
)
