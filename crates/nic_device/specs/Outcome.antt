use Rattle.nic_device.specs.State.{State}
use Rattle.nic_device.specs.declared.event.Reply.{Reply}
use Rattle.rx_ring.specs.DmaArena.Block.{Block}

-- A reply, and the state after it.
pub record Outcome : Type 0 where
  pub reply : Reply Block
  pub state : State

abbrev pub gives : Reply Block → State → Outcome
gives reply state = record { reply = reply; state = state }
