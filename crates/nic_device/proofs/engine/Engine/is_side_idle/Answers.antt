use Rattle.std.proofs.Common.{◌≡◌, true, rules, sym, ◌∙◌}
use Rattle.std.specs.Prelude.{nat_lt}
use Rattle.nic_device.proofs.AtRest.{side_idle}
use Rattle.nic_device.proofs.engine.Engine.is_side_idle.Goals as goal

pub returns-then-queue-lt-QUEUES : goal.returns-then-queue-lt-QUEUES
returns-then-queue-lt-QUEUES c = λ is.
    let small : nat_lt c.args.queue 128 ≡ true = search (rules, c.if-queue-lt-QUEUES.true) in
    side_idle c.args.self.now c.args.dir c.args.queue small (sym c.is_settled.ensures ∙ is)
