-- A transmit step: it fetches one descriptor of a queue.
use Rattle.std.specs.Prelude.{ℕ, ◌||◌, ◌&&◌, not, Bool, false, nat_lt, List, [], ◌∷◌, ◌++◌, length, slice_set, slice_index_or, Option, Some, None, Result, Ok, Err, if◌then◌else◌}
use Rattle.rx_ring.specs.DmaArena.Block.{Block}
use Rattle.rx_ring.specs.DmaArena.Memory.{Memory}
use Rattle.rx_ring.specs.DmaRing.declared.fault.RingFault.{RingFault}
use Rattle.tx_ring.specs.Fetch.{fetch_of}
use Rattle.tx_ring.specs.declared.fetched.Fetched.{Fetched}
use Rattle.tx_ring.specs.declared.tx.Tx.{Tx as Sending}
use Rattle.register_file.specs.RegTable.declared.rows.RowId.TheVariants.{Gptc, Qptc, Vfgptc}
use Rattle.register_file.specs.Counters.{counted, counter_of}
use Rattle.register_file.specs.Registers.{Registers}
use Rattle.register_file.specs.Queue.{with_head}
use Rattle.register_file.specs.Pools.{mode_in, is_pool_on}
use Rattle.register_file.specs.VfMap.Pools.{pool_of}
use Rattle.rx_filter.specs.Pools.{uses_pools}
use Rattle.register_file.specs.Settings.{is_stopped, can_transmit, frame_limit, pads}
use Rattle.rx_ring.specs.DmaRing.declared.dir.Dir.TheVariants.{Tx}
use Rattle.register_laws.specs.Sides.{TransmitQueue, transmit_queue_of}
use Rattle.nic_device.specs.State.{State}
use Rattle.nic_device.specs.Interrupt.{function_of_queue, function_counted, raised_by, side_failed}
use Rattle.nic_device.specs.Outcome.{Outcome, gives}
use Rattle.nic_device.specs.Receive.{is_empty}
use Rattle.nic_device.specs.declared.event.Reply.{Reply}
use Rattle.nic_device.specs.declared.event.Reply.TheVariants.{Idle, NoQueue, Advanced, Sent, Fault}

-- The bytes that a queue has staged.
abbrev pub staged_by : State → ℕ → List ℕ
staged_by s queue = slice_index_or s.staged queue []

-- How a queue sends: its frame limit, whether it pads frames, and whether it writes back the head.
abbrev pub sending_of : Registers → TransmitQueue → Sending
sending_of r q = record { limit = frame_limit r; pad = pads r; writeback = q.writeback }

-- The reply to a fetched slot: the frame that was sent, or that the head advanced.
abbrev pub fetched_reply : ℕ → Fetched → Option (List ℕ) → Reply Block
fetched_reply queue f (Some frame) = Sent queue (length frame) f.back
fetched_reply queue f None = Advanced queue f.slot f.back

-- The transmitted frames, including the frame that the slot completed, if any.
abbrev pub with_frame : List (ℕ × List ℕ) → ℕ → Option (List ℕ) → List (ℕ × List ℕ)
with_frame out queue (Some frame) = out ++ (queue, frame) ∷ []
with_frame out queue None = out

-- The registers after a slot is fetched: the head moves, and a completed frame is counted.
abbrev pub slot_counted : Registers → (vfs : ℕ) → ℕ → Fetched → Option (List ℕ) → Registers
slot_counted r vfs queue f (Some frame) =
    function_counted (counted (counted (with_head r Tx queue f.head) Gptc 0) Qptc (counter_of r Tx queue))
    (function_of_queue r vfs queue) Vfgptc
slot_counted r vfs queue f None = with_head r Tx queue f.head

-- The registers after a slot is fetched and reported: a slot that requests a report also raises its queue's transmit
-- cause.
abbrev pub slot_reported : Registers → (vfs : ℕ) → ℕ → Fetched → Registers
slot_reported r vfs queue f =
    if f.rs then raised_by (slot_counted r vfs queue f f.frame) vfs Tx queue else slot_counted r vfs queue f f.frame

-- The slot at the queue's head was fetched, or had a fault. A fault drops the staged bytes and disables the transmit
-- side.
abbrev pub slot_done : State → ℕ → Result Fetched RingFault → Memory → List ℕ → Outcome
slot_done s queue (Ok f) memory staged =
    gives (fetched_reply queue f f.frame)
    (record s {
      registers = slot_reported s.registers s.vfs queue f;
      memory = memory;
      staged = slice_set s.staged queue staged;
      out = with_frame s.out queue f.frame;
    })
slot_done s queue (Err fault) memory staged =
    gives (Fault queue fault)
    (record s { registers = side_failed s.registers Tx queue; staged = slice_set s.staged queue [] })

-- The slot at the head of a queue is fetched.
abbrev pub slot_fetched : State → ℕ → TransmitQueue → Outcome
slot_fetched s queue q =
    let fetched = fetch_of s.memory (staged_by s queue) q.ring (sending_of s.registers q) in
    slot_done s queue fetched.answer fetched.memory fetched.staged

-- While frames are distributed among pools, a queue is muted if its pool's VFTE bit is 0.
abbrev pub is_muted_pool : Registers → Option ℕ → Bool
is_muted_pool r None = false
is_muted_pool r (Some pool) = not (is_pool_on r Tx pool)

unfoldable pub is_muted : Registers → ℕ → Bool
is_muted r queue = uses_pools r && is_muted_pool r (pool_of (mode_in r) queue)

-- A queue sends nothing while the device takes no steps, the link is down, transmission is disabled, the queue is
-- disabled, its pool is muted, or the device owns no slot.
abbrev pub is_silent : State → ℕ → TransmitQueue → Bool
is_silent s queue q =
    is_stopped s.registers || not s.link || not (can_transmit s.registers) || not q.on || is_muted s.registers queue
    || is_empty q.ring

abbrev pub queue_sent : State → ℕ → TransmitQueue → Outcome
queue_sent s queue q = if is_silent s queue q then gives Idle s else slot_fetched s queue q

-- One transmit step of a queue. The queue must be below 128.
abbrev pub transmitted : State → ℕ → Outcome
transmitted s queue =
    if nat_lt queue 128 then queue_sent s queue (transmit_queue_of s.registers queue) else gives NoQueue s
