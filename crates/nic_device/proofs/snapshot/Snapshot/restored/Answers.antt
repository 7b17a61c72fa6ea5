use Rattle.std.proofs.Common.{sym, ap, subst, ◌∙◌}
use Rattle.rx_ring.specs.DmaArena.Memory.{Memory}
use Rattle.nic_device.specs.Blocks.{AreFree, HaveLeft}
use Rattle.nic_device.specs.Sound.{IsSound}
use Rattle.nic_device.specs.State.{State}
use Rattle.nic_device.proofs.Leaving.{lent-again}
use Rattle.nic_device.proofs.snapshot.Snapshot.restored.Goals as goal

pub lent-requires-clause-free : goal.lent-requires-clause-free
lent-requires-clause-free c =
    subst (λ (m : Memory). AreFree c.args.arena.now m) (sym (ap (λ (s : State). s.memory) c.self.view_is)) c.requires

pub invariant_of-result : goal.invariant_of-result
invariant_of-result c =
    subst IsSound
    (sym (lent-again c.self.inside.state _ _ _ _ c.with_memory.ensures c.in-Ok.ensures
    c.in-Ok-lent.ensures.lent))
    c.self.invariant

pub returns-in-Ok-lent-clause-restored : goal.returns-in-Ok-lent-clause-restored
returns-in-Ok-lent-clause-restored c =
    lent-again c.self.inside.state _ _ _ _ c.with_memory.ensures c.in-Ok.ensures
    c.in-Ok-lent.ensures.lent ∙ c.self.view_is

pub returns-in-Ok-lent-clause-left : goal.returns-in-Ok-lent-clause-left
returns-in-Ok-lent-clause-left c =
    subst (λ (m : Memory). HaveLeft c.args.arena.now c.lent.new.arena m)
    (ap (λ (s : State). s.memory) c.self.view_is) c.in-Ok-lent.ensures.left
