-- How GCR_EXT divides the 128 queues into pools. Virtual function v has pool v.
use Rattle.std.specs.Prelude.{ℕ, ◌+◌, ◌*◌, ◌/◌, ◌%◌, ◌==◌, nat_lt, Option, Some, None, if◌then◌else◌}
use Rattle.vf_map.specs.declared.mode.Mode.{Mode}
use Rattle.vf_map.specs.declared.mode.Mode.TheVariants.{Off, Pools16, Pools32, Pools64}

-- The mode in bits 1:0 of GCR_EXT.
abbrev pub mode_of : ℕ → Mode
mode_of gcr_ext =
    if gcr_ext % 4 == 0 then Off
    else (if gcr_ext % 4 == 1 then Pools16
    else (if gcr_ext % 4 == 2 then Pools32 else Pools64))

-- The number of pools (`pools_in`), and the number of queues in each (`queues_each`).
abbrev pub pools_in : Mode → ℕ
pools_in Off = 0
pools_in Pools16 = 16
pools_in Pools32 = 32
pools_in Pools64 = 64

abbrev pub queues_each : Mode → ℕ
queues_each Off = 0
queues_each Pools16 = 8
queues_each Pools32 = 4
queues_each Pools64 = 2

-- The maximum number of queues in a pool, in any mode.
abbrev pub most_queues : ℕ
most_queues = 8

-- The queue that a number selects in a pool. The queue's index in the pool is the number modulo the number of queues in
-- a pool.
abbrev pub queue_in : Mode → (pool number : ℕ) → ℕ
queue_in mode pool number = pool * queues_each mode + number % queues_each mode

-- The first queue of a pool and the number of its queues, or `None` if the mode doesn't have the pool.
abbrev pub queues_of : Mode → ℕ → Option (ℕ × ℕ)
queues_of mode pool =
    if nat_lt pool (pools_in mode) then Some (pool * queues_each mode, queues_each mode) else None

-- The pool of a queue, or `None` if the mode has no pool for the queue.
abbrev pub pool_of : Mode → ℕ → Option ℕ
pool_of mode queue =
    if nat_lt queue (pools_in mode * queues_each mode) then Some (queue / queues_each mode) else None
