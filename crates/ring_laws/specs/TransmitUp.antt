-- A queue whose transmit side is on, with no request to disable the side pending.
use Rattle.std.specs.Prelude.{List, ℕ}
use Rattle.ring_laws.specs.Prelude.{Block, Event, State, Tx, after}
use Rattle.ring_laws.specs.TransmitPrelude.{Move, Sender, side_of}
use Rattle.ring_laws.specs.{Agreeing.Agrees, Moves.MayMove}
use Rattle.ring_laws.specs.Sides as sides

abbrev pub IsUp : ℕ → State → Type 0
IsUp queue s = sides.IsUp (side_of Tx queue s)

-- If the device and the driver agree, the side stays up through each of the driver's moves and through every event that
-- spares the driver.
abbrev pub UpStays : Type 0
UpStays =
    (s : State) (queue : ℕ) (sent : List (List ℕ)) (v : Sender) (e : Event Block) (m : Move) → Agrees s queue sent v →
    MayMove queue v s e m → IsUp queue s → IsUp queue (after s e)
