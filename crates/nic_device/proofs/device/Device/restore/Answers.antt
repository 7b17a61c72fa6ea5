use Rattle.std.proofs.Common.{ap, subst}
use Rattle.rx_ring.specs.DmaArena.Memory.{Memory}
use Rattle.nic_device.specs.Blocks.{AreFree, IsLowestTaken}
use Rattle.nic_device.specs.State.{State}
use Rattle.nic_device.proofs.device.Device.restore.Goals as goal

pub returns-in-Some-clause-why : goal.returns-in-Some-clause-why
returns-in-Some-clause-why c =
    subst (λ (m : Memory). IsLowestTaken c.args.arena.now m c.in-Some.block)
    (ap (λ (s : State). s.memory) c.snapshot.view_is) c.in-Some.ensures

pub restored-requires : goal.restored-requires
restored-requires c =
    subst (λ (m : Memory). AreFree c.args.arena.now m) (ap (λ (s : State). s.memory) c.snapshot.view_is)
    c.in-None.ensures
