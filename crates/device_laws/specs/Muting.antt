-- Queues of pools that may not transmit.
use Rattle.std.specs.Prelude.{ℕ, ◌≡◌, ◌<◌, IsTrue, IsFalse, Some}
use Rattle.nic_device.specs.RegisterFile.Pools.{mode_in, sends_frames}
use Rattle.nic_device.specs.RxFilter.Pools.{uses_pools}
use Rattle.nic_device.specs.declared.event.Event.TheVariants as event
use Rattle.device_laws.specs.Prelude.{Idle, State, gives, pool_of, step_of}

-- While frames are distributed among pools, a transmit step for a queue is idle and changes nothing if the queue's pool
-- may not transmit.
abbrev pub MutedQueueIsIdle : Type 0
MutedQueueIsIdle =
    (s : State) → IsTrue (uses_pools s.registers) → (queue pool : ℕ) → queue < 128 →
    pool_of (mode_in s.registers) queue ≡ Some pool → IsFalse (sends_frames s.registers pool) →
    step_of s (event.TxStep queue) ≡ gives Idle s
