-- Interrupts: the causes that queues and the device raise, and single messages.
use Rattle.std.specs.Prelude.{ℕ, ◌^◌, Bool, true, ◌&&◌, nat_lt, Option, Some, None, is_some, if◌then◌else◌}
use Rattle.rx_ring.specs.DmaArena.Block.{Block}
use Rattle.register_file.specs.IntrUnit.declared.group.Group.{Group}
use Rattle.register_file.specs.IntrUnit.declared.group.Group.TheVariants.{Pf, Vf}
use Rattle.register_file.specs.RegTable.declared.rows.RowId.{RowId}
use Rattle.register_file.specs.VfMap.Pools.{queues_of, pool_of}
use Rattle.register_file.specs.Counters.{counted_wrapping}
use Rattle.register_file.specs.Groups.{causes_raised, queue_raised, message_of, message_made}
pub use Rattle.register_file.specs.Pools.{mode_in}
use Rattle.register_file.specs.Queue.{shut}
use Rattle.register_file.specs.Registers.{Registers}
use Rattle.register_file.specs.Settings.{is_stopped}
use Rattle.rx_ring.specs.DmaRing.declared.dir.Dir.{Dir}
use Rattle.nic_device.specs.State.{State}
use Rattle.nic_device.specs.Outcome.{Outcome, gives}
use Rattle.nic_device.specs.declared.event.Reply.{Reply}
use Rattle.nic_device.specs.declared.event.Reply.TheVariants.{Idle, NoGroup, Message}

-- The causes that the device itself raises: a frame missed because the list is full, a fault, and a link change.
abbrev pub missed_cause : ℕ
missed_cause = 2 ^ 17

abbrev pub fault_cause : ℕ
fault_cause = 2 ^ 18

abbrev pub link_cause : ℕ
link_cause = 2 ^ 20

-- The registers after the device raises a cause of the physical function.
abbrev pub device_raised : Registers → ℕ → Registers
device_raised r cause = causes_raised r Pf cause

-- The registers after a fault: the side of the queue is disabled, its enable request is withdrawn, and the fault cause
-- is raised.
abbrev pub side_failed : Registers → Dir → ℕ → Registers
side_failed r dir queue = device_raised (shut r dir queue) fault_cause

-- The virtual function that a queue belongs to: its pool's function, if the device has that function.
abbrev pub function_in : (vfs : ℕ) → Option ℕ → Option ℕ
function_in vfs None = None
function_in vfs (Some pool) = if nat_lt pool vfs then Some pool else None

unfoldable pub function_of_queue : Registers → (vfs queue : ℕ) → Option ℕ
function_of_queue r vfs queue = function_in vfs (pool_of (mode_in r) queue)

-- The interrupt group in which a queue raises its causes: its virtual function's group, or the physical function's
-- group if the queue belongs to no virtual function.
abbrev pub group_of : Option ℕ → Group
group_of None = Pf
group_of (Some v) = Vf v

abbrev pub group_of_queue : Registers → (vfs queue : ℕ) → Group
group_of_queue r vfs queue = group_of (function_of_queue r vfs queue)

-- The registers after a frame is counted in a row of per-function counters, if the frame belongs to a virtual function.
abbrev pub function_counted : Registers → Option ℕ → RowId → Registers
function_counted r None row = r
function_counted r (Some v) row = counted_wrapping r row v

-- The registers after a side of a queue raises its cause.
unfoldable pub raised_by : Registers → (vfs : ℕ) → Dir → ℕ → Registers
raised_by r vfs dir queue = queue_raised r (group_of_queue r vfs queue) dir queue

-- Whether an interrupt group exists. The physical function's group always exists. A virtual function's group exists if
-- the device has the function and the mode has a pool for the function.
abbrev pub has_group : State → Group → Bool
has_group s Pf = true
has_group s (Vf v) = nat_lt v s.vfs && is_some (queues_of (mode_in s.registers) v)

abbrev pub message_reply : Group → Option ℕ → Reply Block
message_reply g None = Idle
message_reply g (Some vector) = Message g vector

-- An interrupt step for an existing group: the group's next due message is sent, if there is one and bus mastering is
-- enabled.
abbrev pub messaged : State → Group → Outcome
messaged s g =
    if is_stopped s.registers then gives Idle s
    else gives (message_reply g (message_of s.registers g)) (record s { registers = message_made s.registers g })

abbrev pub interrupted : State → Group → Outcome
interrupted s g = if has_group s g then messaged s g else gives NoGroup s
