-- A side of a queue, by its direction.
use Rattle.std.specs.Prelude.{[], if◌then◌else◌, ◌≡◌, Bool, IsFalse, IsTrue, List, None, Option, false, ℕ}
use Rattle.ring_laws.specs.Prelude.{Dir, ReceiveQueue, Ring, Rx, State, TransmitQueue, Tx, is_empty, moved_on}
use Rattle.ring_laws.specs.Prelude.{receive_queue_of, staged_by, transmit_queue_of}

-- A side's ring, control word, head write-back address and staged bytes, whether the side is on, and whether an enable
-- request is in effect. A receive side has no head write-back and stages nothing. The control word of a transmit side
-- is 0.
pub record Side : Type 0 where
  pub ring : Ring
  pub control : ℕ
  pub writeback : Option ℕ
  pub staged : List ℕ
  pub on : Bool
  pub wanted : Bool

abbrev pub receive_side : ReceiveQueue → Side
receive_side q =
    record { ring = q.ring; control = q.control; writeback = None; staged = []; on = q.on; wanted = q.wanted }

abbrev pub transmit_side : TransmitQueue → List ℕ → Side
transmit_side q staged =
    record { ring = q.ring; control = 0; writeback = q.writeback; staged = staged; on = q.on; wanted = q.wanted }

abbrev pub side_of : Dir → ℕ → State → Side
side_of Rx queue s = receive_side (receive_queue_of s.registers queue)
side_of Tx queue s = transmit_side (transmit_queue_of s.registers queue) (staged_by s queue)

-- A side of a queue is unchanged.
abbrev pub LeavesSide : Dir → ℕ → State → State → Type 0
LeavesSide dir queue old new = side_of dir queue new ≡ side_of dir queue old

-- A side is on, with no request to disable the side pending.
pub record IsUp (x : Side) : Type 0 where
  pub on : IsTrue x.on
  pub wanted : IsTrue x.wanted

-- No enable request is in effect for a side. `IsOff`: the side is also off.
abbrev pub IsUnwanted : Side → Type 0
IsUnwanted x = IsFalse x.wanted

pub record IsOff (x : Side) : Type 0 where
  pub off : IsFalse x.on
  pub unwanted : IsUnwanted x

-- The side is on, and a slot of its ring belongs to the device.
pub record IsTried (x : Side) : Type 0 where
  pub on : IsTrue x.on
  pub some : IsFalse (is_empty x.ring)

-- A side after the slot at its head was taken, with these bytes staged.
abbrev pub taken : List ℕ → Side → Side
taken staged x = record x { ring = moved_on x.ring; staged = staged }

-- A side that a fault has shut.
abbrev pub shut : Side → Side
shut x = record x { on = false; wanted = false; staged = [] }

-- A side in its requested state; a side that becomes disabled loses its staged bytes.
abbrev pub as_wanted : Side → Side
as_wanted x = record x { on = x.wanted; staged = if x.wanted then x.staged else [] }
