-- The pool reset, and writes that don't request a device reset.
use Rattle.std.specs.Prelude.{ℕ, zero, suc, ◌+◌, not, List, [], filter, slice_set, Option, Some, None, if◌then◌else◌}
use Rattle.register_file.specs.RegTable.Rows.{row_of}
use Rattle.register_file.specs.RegTable.declared.place.Place.{Place}
use Rattle.register_file.specs.VfMap.Owner.{has_queue}
use Rattle.register_file.specs.VfMap.Pools.{queues_of}
use Rattle.register_file.specs.VfMap.declared.mode.Mode.{Mode}
use Rattle.register_file.specs.Access.{written, asks_pool_reset}
use Rattle.register_file.specs.PoolReset.{pool_reset}
use Rattle.register_file.specs.Pools.{mode_in}
use Rattle.nic_device.specs.State.{State, Waiting}

-- The staged bytes of all queues after `count` queues, starting with queue `first`, drop theirs.
abbrev pub unstaged : List (List ℕ) → (first count : ℕ) → List (List ℕ)
unstaged staged first zero = staged
unstaged staged first (suc count) = slice_set (unstaged staged first count) (first + count) []

-- The staged bytes of all queues after a pool's queues drop theirs.
abbrev pub pool_unstaged : List (List ℕ) → Option (ℕ × ℕ) → List (List ℕ)
pool_unstaged staged None = staged
pool_unstaged staged (Some queues) = unstaged staged queues.0 queues.1

-- The frames in the receive list for queues outside a pool, in order.
abbrev pub others_waiting : Mode → ℕ → List Waiting → List Waiting
others_waiting mode v waiting = filter (λ w. not (has_queue mode v w.queue)) waiting

-- A pool reset resets the pool's registers, and drops the frames in the receive list for the pool's queues and the
-- queues' staged bytes. Frames for other pools, lent memory, transmitted frames and the link are unchanged.
abbrev pub with_pool_reset : State → ℕ → State
with_pool_reset s v =
    let mode = mode_in s.registers in
    record s {
      registers = pool_reset mode v s.registers;
      waiting = others_waiting mode v s.waiting;
      staged = pool_unstaged s.staged (queues_of mode v);
    }

-- The state after a write to a place. The write must not request a device reset but may request a pool reset.
abbrev pub written_below_reset : State → Place → ℕ → ℕ → State
written_below_reset s p view word =
    if asks_pool_reset (row_of p.row).kind word then with_pool_reset s p.index
    else record s { registers = written (row_of p.row).kind s.registers p view word }
