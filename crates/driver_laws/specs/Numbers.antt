-- Which queue of the device is identified by a port and a queue number at that port.
use Rattle.std.specs.Prelude.{◌+◌, ◌≡◌, None, Option, Some, if◌then◌else◌, nat_lt, true, ℕ}
use Rattle.pmd_driver.specs.NicDevice.{VfMap.Pools.queues_of, VfMap.declared.mode.Mode.Mode}
use Rattle.driver_laws.specs.StartPrelude.{AtPort, IsNumberOf, Pf, Port, RowId, State, Vf, is_driven, mode_in}
use Rattle.driver_laws.specs.Words.{NamesRow}

-- The pool's queue with this number, counted from the pool's first queue.
abbrev pub queue_in : Option (ℕ × ℕ) → ℕ → Option ℕ
queue_in None number = None
queue_in (Some queues) number = if nat_lt number queues.1 then Some (queues.0 + number) else None

-- The physical function's queues are the device's. A virtual function's queues are its pool's.
abbrev pub queue_at : Mode → (vfs : ℕ) → Port → ℕ → Option ℕ
queue_at mode vfs Pf number = if nat_lt number 128 then Some number else None
queue_at mode vfs (Vf v) number = if nat_lt v vfs then queue_in (queues_of mode v) number else None

-- Port and queue number identify this queue, given how the device's queues are separated into pools.
abbrev pub NamesQueue : State → AtPort → ℕ → Type 0
NamesQueue s q queue = queue_at (mode_in s.registers) s.vfs q.port q.queue ≡ Some queue

-- The register numbers that a driver uses at its port identify this queue's registers.
abbrev pub NumbersName : State → AtPort → ℕ → Type 0
NumbersName s q queue =
    (row : RowId) (number : ℕ) → is_driven row ≡ true → IsNumberOf q.port row q.queue number →
    NamesRow s q.port number row queue

-- If port and queue number identify the queue, the driver's register numbers identify the queue's registers.
abbrev pub NamedQueueHasTheNumbers : Type 0
NamedQueueHasTheNumbers = (s : State) (q : AtPort) (queue : ℕ) → NamesQueue s q queue → NumbersName s q queue
