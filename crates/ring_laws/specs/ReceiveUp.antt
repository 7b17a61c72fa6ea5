-- A queue whose receive side is on, with no request to disable the side pending.
use Rattle.std.specs.Prelude.{◌≡◌, ◌≢◌, ◌⊎◌, IsTrue, List, ℕ}
use Rattle.ring_laws.specs.Prelude.{Block, Blocks, Entry, EntryLeavesAlone, Event, IsSound, LeavesReceive, Mode, Rx}
use Rattle.ring_laws.specs.Prelude.{State, Watched, after}
use Rattle.ring_laws.specs.ReceivePrelude.{IsOwn, Receive, is_step}
use Rattle.ring_laws.specs.Sides.{side_of}
use Rattle.ring_laws.specs.{Joint.Agree, Pieces.Piece, Steps.IsMetBy}
use Rattle.pmd_access.specs.NicDevice.declared.event.Event.TheVariants as event
use Rattle.ring_laws.specs.Sides as sides

abbrev pub IsUp : ℕ → State → Type 0
IsUp queue s = sides.IsUp (side_of Rx queue s)

-- A side that is up stays up through an event that leaves it unchanged. A step that puts such a side into its requested
-- state changes nothing.
abbrev pub LeavingStaysUp : Type 0
LeavingStaysUp = (queue : ℕ) (s t : State) → LeavesReceive queue s t → IsUp queue s → IsUp queue t

abbrev pub EnableStepChangesNothing : Type 0
EnableStepChangesNothing = (queue : ℕ) (s : State) → IsUp queue s → after s (event.QueueStep Rx queue) ≡ s

-- If the device and the driver agree, the side stays up through each receive step, for any queue, and through each of
-- the driver's own events.

abbrev pub ReceiveStepStaysUp : Type 0
ReceiveStepStaysUp =
    (queue : ℕ) (s : State) (out : List Piece) (v : Receive) → IsSound s → Agree queue s out v → IsUp queue s →
    IsUp queue (after s event.RxStep)

abbrev pub OwnEventStaysUp : Type 0
OwnEventStaysUp =
    (queue : ℕ) (s : State) (out : List Piece) (v : Receive) (e : Event Block) → IsSound s → Agree queue s out v →
    IsOwn v e → IsUp queue s → IsUp queue (after s e)

-- The side also stays up through an entry of another pass, or a device step of any pass, that leaves the queue alone.
abbrev pub EntryStaysUp : Type 0
EntryStaysUp =
    (w : Watched) (mine : Blocks) (mode : Mode) (s : State) (out : List Piece) (v : Receive) (e : Entry) →
    IsMetBy w mode s e → Agree w.queue s out v → EntryLeavesAlone w mine mode e →
    (e.pass ≢ w.pass) ⊎ IsTrue (is_step e.event) → IsUp w.queue s → IsUp w.queue (after s e.event)
