-- Queues whose device steps do nothing.
use Rattle.std.specs.Prelude.{◌≡◌, ℕ, ◌&&◌, Bool, true, false, nat_lt, List, [], ◌∷◌}
use Rattle.std.specs.Bool.{beq}
use Rattle.register_file.specs.Registers.{is_wanted}
use Rattle.register_file.specs.Queue.{is_on}
use Rattle.register_laws.specs.Sides.{transmit_queue_of}
use Rattle.rx_ring.specs.DmaArena.Block.{Block}
use Rattle.rx_ring.specs.DmaRing.declared.dir.Dir.{Dir}
use Rattle.rx_ring.specs.DmaRing.declared.dir.Dir.TheVariants.{Rx, Tx}
use Rattle.nic_device.specs.State.{State, Waiting}
use Rattle.nic_device.specs.Outcome.{gives}
use Rattle.nic_device.specs.Step.{step_of}
use Rattle.nic_device.specs.Transmit.{is_silent}
use Rattle.nic_device.specs.declared.event.Event.{Event}
use Rattle.nic_device.specs.declared.event.Event.TheVariants as event
use Rattle.nic_device.specs.declared.event.Reply.TheVariants.{Idle}

-- The receive list is empty.
abbrev pub none_waits : List Waiting → Bool
none_waits [] = true
none_waits (w ∷ others) = false

-- A side of a queue is in the state that its enable request specifies.
abbrev pub is_settled : State → Dir → ℕ → Bool
is_settled s dir queue = beq (is_wanted s.registers dir queue) (is_on s.registers dir queue)

-- Both sides of a queue below 128 are in the state that their enable bits request, the queue currently can't send, and
-- the receive list is empty.
abbrev pub is_at_rest : State → ℕ → Bool
is_at_rest s queue =
    nat_lt queue 128 && (is_settled s Rx queue && (is_settled s Tx queue
    && (is_silent s queue (transmit_queue_of s.registers queue) && none_waits s.waiting)))

-- The event's reply is `Idle`, and the event changes nothing.
abbrev pub IsIdle : State → Event Block → Type 0
IsIdle s e = step_of s e ≡ gives Idle s

-- The enable steps, the transmit step and the receive step that serve a queue are idle.
pub record Rests (s : State) (queue : ℕ) : Type 0 where
  pub receive_side : IsIdle s (event.QueueStep Rx queue)
  pub transmit_side : IsIdle s (event.QueueStep Tx queue)
  pub sending : IsIdle s (event.TxStep queue)
  pub receiving : IsIdle s event.RxStep
