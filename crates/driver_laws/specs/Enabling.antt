-- Values written to the enable registers of a driver's queue.
use Rattle.std.specs.Prelude.{[], ⊤, ◌≡◌, List, true, ℕ}
use Rattle.driver_laws.specs.Agreeing.{BothAgree}
use Rattle.driver_laws.specs.StartPrelude.{Dir, Halves, IsEvent, Piece, Port, Register, Rx, State, Tx, after}
use Rattle.driver_laws.specs.StartPrelude.{enable_row}
use Rattle.driver_laws.specs.StartPrelude.{has_bit, named, place}
use Rattle.pmd_driver.specs.NicDevice.declared.event.Event.TheVariants as event

-- If the value requests that the transmit side be enabled, no packet is outstanding. For the receive side, every value
-- is allowed.
abbrev pub MayAsk : Dir → ℕ → Halves → Type 0
MayAsk Rx word h = ⊤
MayAsk Tx word h = has_bit 25 word ≡ true → h.transmit.outstanding ≡ []

-- If a value that meets this condition is written to a side's enable register, the device still agrees with both
-- halves.
abbrev pub EnableWordsKeep : Type 0
EnableWordsKeep =
    (queue : ℕ) (s : State) (side : Dir) (port : Port) (number word : ℕ) (out : List Piece) (sent : List (List ℕ))
    (h : Halves) → IsEvent (event.Write port number word) →
    named s port number ≡ Register (place (enable_row side) queue) 0xFFFFFFFF → MayAsk side word h →
    BothAgree queue s out sent h → BothAgree queue (after s (event.Write port number word)) out sent h
