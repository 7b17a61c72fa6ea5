-- A queue whose transmit side is off, with no enable request in effect.
use Rattle.std.specs.Prelude.{[], ◌<◌, ◌∷◌, ◌≡◌, IsFalse, List, ℕ, ⊤}
use Rattle.ring_laws.specs.Prelude.{Block, Entry, Event, IsEvent, IsSound, LeavesTransmit, Port, Register, State, Tx}
use Rattle.ring_laws.specs.Prelude.{Txdctl, after, has_bit, leads_to, named, place, reply_to}
use Rattle.ring_laws.specs.TransmitPrelude.{side_of}
use Rattle.ring_laws.specs.{Sent.sent_in, Sparing.is_switch_of, Sparing.is_transmit_of}
use Rattle.pmd_access.specs.NicDevice.declared.event.Event.TheVariants as event
use Rattle.pmd_access.specs.NicDevice.declared.event.Reply.TheVariants as reply
use Rattle.ring_laws.specs.Sides as sides

-- No enable request is in effect for the side. `IsOff`: the side is also off.
abbrev pub IsUnwanted : ℕ → State → Type 0
IsUnwanted queue s = sides.IsUnwanted (side_of Tx queue s)

abbrev pub IsOff : ℕ → State → Type 0
IsOff queue s = sides.IsOff (side_of Tx queue s)

-- An event of a sound device is one of the side's own steps, or leaves the side unchanged.
pub record LeavesSide (queue : ℕ) (s : State) (e : Event Block) : Type 0 where
  pub sound : IsSound s
  pub made : IsEvent e
  pub side : IsFalse (is_transmit_of queue e) → IsFalse (is_switch_of queue e) → LeavesTransmit queue s (after s e)

-- Each event of a history is one of the side's own steps, or leaves the side unchanged.
abbrev pub AllLeaveSide : ℕ → State → List Entry → Type 0
AllLeaveSide queue s [] = ⊤
AllLeaveSide queue s (e ∷ es) = LeavesSide queue s e.event × AllLeaveSide queue (after s e.event) es

-- If no enable request is in effect for a side, none is in effect after such an event either. A side that is also off
-- stays off and sends nothing during a history of such events.
pub record OffStays : Type 0 where
  pub unwanted :
      (queue : ℕ) (s : State) (e : Event Block) → queue < 128 → LeavesSide queue s e → IsUnwanted queue s
      → IsUnwanted queue (after s e)
  pub off :
      (queue : ℕ) (s : State) (h : List Entry) → queue < 128 → AllLeaveSide queue s h → IsOff queue s
      → IsOff queue (leads_to s h)
  pub silent :
      (queue : ℕ) (s : State) (h : List Entry) → queue < 128 → AllLeaveSide queue s h → IsOff queue s
      → sent_in queue s h ≡ []

-- This number at this port identifies the enable register of the side, and gives access to all its bits.
abbrev pub NamesEnable : ℕ → State → Port → ℕ → Type 0
NamesEnable queue s port number = named s port number ≡ Register (place Txdctl queue) 0xFFFFFFFF

-- After a write to the enable register with bit 25 clear, no enable request is in effect for the side. If no enable
-- request is in effect and a read of the register returns bit 25 as 0, the side is disabled.
pub record GuardIsOff : Type 0 where
  pub written :
      (queue : ℕ) (s : State) (port : Port) (number word : ℕ) → queue < 128 → IsSound s
      → NamesEnable queue s port number → IsFalse (has_bit 25 word)
      → IsUnwanted queue (after s (event.Write port number word))
  pub read :
      (queue : ℕ) (s : State) (port : Port) (number word : ℕ) → IsUnwanted queue s
      → NamesEnable queue s port number → reply_to s (event.Read port number) ≡ reply.Word word
      → IsFalse (has_bit 25 word) → IsOff queue (after s (event.Read port number))
