use Rattle.std.proofs.Common.{ap, ◌∙◌, [], add-one}
use Rattle.std.proofs.Math.ListN.{set}
use Rattle.nic_device.proofs.Staging.{set-next}
use Rattle.nic_device.proofs.access.clear_all.Goals as goal

pub loop-queue-preserved : goal.loop-queue-preserved
loop-queue-preserved c =
    rw (c.clear.ensures, add-one) (ap (λ ys. set ys c.loop-queue.queue []) c.loop-queue.invariant
    ∙ set-next c.args.staged.now c.loop-queue.queue c.loop-queue-test.true)
