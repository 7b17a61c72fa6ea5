use Rattle.std.proofs.Common.{◌≡◌, sym, subst, ◌∙◌, ap}
use Rattle.std.specs.FinMap as map
use Rattle.nic_device.specs.Sound.{IsSound}
use Rattle.nic_device.specs.State.{State}
use Rattle.nic_device.proofs.Blocks.{AreBlocks-empty}
use Rattle.nic_device.proofs.device.Device.snapshot_without_memory.Goals as goal

-- A device stays sound without its blocks.
without_blocks : (s : State) → IsSound s → IsSound (record s { memory = map.empty })
without_blocks s h = record {
  registers = h.registers;
  blocks = AreBlocks-empty;
  waiting = h.waiting;
  begun = h.begun;
  room = h.room;
  staged = h.staged;
  bare = h.bare;
  out = h.out;
  image = h.image;
  vfs = h.vfs;
  some = h.some;
  few = h.few;
}

pub invariant_of-result : goal.invariant_of-result
invariant_of-result c =
    let is : (record c.in_ok-state.state { memory = c.none-blocks.result })
    ≡ record c.self.inside.engine { memory = map.empty } =
    ap (λ (s : State). record s { memory = c.none-blocks.result }) c.in_ok-state.ensures
    ∙ ap (λ m. let s : State = record c.self.inside.engine { memory = m } in s) c.none-blocks.ensures in
    subst IsSound (sym is) (without_blocks c.self.inside.engine c.self.invariant)
