use Rattle.std.proofs.Common.{◌≡◌, true, rules, sym, ◌∙◌}
use Rattle.std.specs.Prelude.{nat_lt}
use Rattle.nic_device.proofs.AtRest.{sending_idle}
use Rattle.nic_device.proofs.engine.Engine.is_sending_idle.Goals as goal

pub returns-then-queue-lt-QUEUES : goal.returns-then-queue-lt-QUEUES
returns-then-queue-lt-QUEUES c = λ is.
    let small : nat_lt c.args.queue 128 ≡ true = search (rules, c.if-queue-lt-QUEUES.true) in
    sending_idle c.args.self.now c.args.queue small (sym c.is_silent.ensures ∙ is)
