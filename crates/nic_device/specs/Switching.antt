-- A side of a queue is enabled or disabled as requested.
use Rattle.std.specs.Prelude.{ℕ, ◌==◌, ◌&&◌, ◌||◌, not, nat_lt, List, [], ◌∷◌, slice_set, if◌then◌else◌}
use Rattle.std.specs.Bool.{beq}
use Rattle.register_file.specs.Registers.{is_wanted}
use Rattle.register_file.specs.Queue.{is_on, switched}
use Rattle.register_file.specs.Settings.{is_stopped}
use Rattle.rx_ring.specs.DmaRing.declared.dir.Dir.{Dir}
use Rattle.rx_ring.specs.DmaRing.declared.dir.Dir.TheVariants.{Rx, Tx}
use Rattle.nic_device.specs.State.{State, Waiting}
use Rattle.nic_device.specs.Outcome.{Outcome, gives}
use Rattle.nic_device.specs.declared.event.Reply.TheVariants.{Done, Idle, NoQueue}

-- The receive list. If its first frame is for this queue and partly written, that frame is removed. Only the first
-- frame can be partly written.
abbrev pub without_part : ℕ → List Waiting → List Waiting
without_part queue [] = []
without_part queue (w ∷ others) = if w.queue == queue && not (w.offset == 0) then others else w ∷ others

-- A transmit side that is disabled loses its staged bytes; a receive side loses the frame that it has partly written.
abbrev pub emptied : State → Dir → ℕ → State
emptied s Rx queue = record s { waiting = without_part queue s.waiting }
emptied s Tx queue = record s { staged = slice_set s.staged queue [] }

-- A side is enabled or disabled as requested.
abbrev pub side_switched : State → Dir → ℕ → State
side_switched s dir queue =
    if is_wanted s.registers dir queue then record s { registers = switched s.registers dir queue }
    else record (emptied s dir queue) { registers = switched s.registers dir queue }

-- One enable step for a side of a queue. The queue must be below 128.
abbrev pub queue_switched : State → Dir → ℕ → Outcome
queue_switched s dir queue =
    if nat_lt queue 128
    then (
    if is_stopped s.registers || beq (is_wanted s.registers dir queue) (is_on s.registers dir queue) then gives Idle s
    else gives Done (side_switched s dir queue)
    )
    else gives NoQueue s
