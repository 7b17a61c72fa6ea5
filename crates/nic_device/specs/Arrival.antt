-- Frames that arrive from the link.
use Rattle.std.specs.Prelude.{ℕ, nat_lt, List, [], ◌∷◌, ◌++◌, length, Result, Ok, Err, if◌then◌else◌}
use Rattle.register_file.specs.RegTable.declared.rows.RowId.{RowId}
use Rattle.register_file.specs.RegTable.declared.rows.RowId.TheVariants.{Mpc, Gprc, Ruc, Roc}
use Rattle.register_file.specs.Counters.{counted}
use Rattle.register_file.specs.Settings.{can_receive, frame_limit}
use Rattle.rx_filter.specs.Sorting.{sorted}
use Rattle.rx_filter.specs.declared.target.Target.{Target}
use Rattle.rx_filter.specs.declared.unwanted.Unwanted.{Unwanted}
use Rattle.rx_filter.specs.declared.unwanted.Unwanted.TheVariants as unwanted
use Rattle.nic_device.specs.State.{State, Waiting}
use Rattle.nic_device.specs.Interrupt.{device_raised, missed_cause}
use Rattle.nic_device.specs.Outcome.{Outcome, gives}
use Rattle.nic_device.specs.declared.event.Reply.TheVariants.{Done, Dropped}
use Rattle.nic_device.specs.declared.event.Why.{Why}
use Rattle.nic_device.specs.declared.event.Why.TheVariants.{LinkDown, Off, Short, Long, Filter, NoPool, PoolOff, Full}

-- An accepted frame: it waits for its queue, with nothing written.
abbrev pub let_in : List ℕ → Target → Waiting
let_in frame t = record { frame = frame; queue = t.queue; hash = t.hash; rss = t.rss; offset = 0 }

-- The state after a counter of the whole device is incremented.
abbrev pub with_count : State → RowId → State
with_count s counter = record s { registers = counted s.registers counter 0 }

-- The state after a frame is missed: the frame is counted, and the receive-miss cause is raised.
abbrev pub missed : State → State
missed s = record s { registers = device_raised (counted s.registers Mpc 0) missed_cause }

-- A frame is appended to the receive list and counted as received. If the list is full, the frame is counted as missed.
abbrev pub joined : State → List ℕ → Target → Outcome
joined s frame t =
    if nat_lt (length s.waiting) s.fifo
    then gives Done (record (with_count s Gprc) { waiting = s.waiting ++ let_in frame t ∷ [] })
    else gives (Dropped Full) (missed s)

-- The drop reason for a frame that goes to no queue.
abbrev pub why_unwanted : Unwanted → Why
why_unwanted unwanted.Filter = Filter
why_unwanted unwanted.NoPool = NoPool
why_unwanted unwanted.PoolOff = PoolOff

-- The result for a frame after its destination, pool and queue were checked.
abbrev pub sorted_in : State → List ℕ → Result Target Unwanted → Outcome
sorted_in s frame (Ok t) = joined s frame t
sorted_in s frame (Err why) = gives (Dropped (why_unwanted why)) s

-- A frame arrives. It is dropped if the link is down, if reception is disabled, if it is shorter than 60 bytes, if it
-- is longer than the limit, if its destination or pool is rejected, or if the receive list is full. Otherwise it is
-- appended to the receive list.
abbrev pub arrived : State → List ℕ → Outcome
arrived s frame =
    if s.link then (
    if can_receive s.registers then (
    if nat_lt (length frame) 60 then gives (Dropped Short) (with_count s Ruc)
    else if nat_lt (frame_limit s.registers) (length frame) then gives (Dropped Long) (with_count s Roc)
    else sorted_in s frame (sorted s.registers frame)
    ) else gives (Dropped Off) s
    ) else gives (Dropped LinkDown) s
