-- What every event preserves.
use Rattle.std.specs.Prelude.{ℕ, ◌<◌, ◌≤◌, IsFalse}
use Rattle.rx_ring.specs.DmaArena.Block.{Block}
use Rattle.rx_ring.specs.DmaArena.Memory.{SameLent}
use Rattle.nic_device.specs.Sound.{IsSound, IsEvent}
use Rattle.nic_device.specs.State.{State, new_state}
use Rattle.nic_device.specs.Step.{after, reply_to, moves_block, hands_out}
use Rattle.nic_device.specs.declared.event.Event.{Event}

-- A new device is sound if its configuration is in range. Every event that a driver can cause keeps a sound device
-- sound.
abbrev pub NewDeviceIsSound : Type 0
NewDeviceIsSound = (vfs fifo : ℕ) → vfs ≤ 63 → 0 < fifo → fifo ≤ 4096 → IsSound (new_state vfs fifo)

abbrev pub EventKeepsSound : Type 0
EventKeepsSound = (s : State) → IsSound s → (e : Event Block) → IsEvent e → IsSound (after s e)

-- An event that neither lends nor takes a block leaves the same blocks lent, and its reply contains no block.
pub record KeepsBlocks (s : State) (e : Event Block) : Type 0 where
  pub lent : SameLent (after s e).memory s.memory
  pub none : IsFalse (hands_out (reply_to s e))

abbrev pub OtherEventsKeepBlocks : Type 0
OtherEventsKeepBlocks = (s : State) (e : Event Block) → IsFalse (moves_block e) → KeepsBlocks s e
