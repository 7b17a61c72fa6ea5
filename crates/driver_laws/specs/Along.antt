-- Legal histories of a sound device that leave a queue alone, and what holds at each point of such a history where the
-- driver's pass has made certain calls.
use Rattle.std.specs.Prelude.{[], ◌++◌, ◌<◌, ◌∷◌, ◌≡◌, List, ℕ}
use Rattle.pmd_driver.specs.DeviceLock.History.{AreEvents, IsLegal}
use Rattle.ring_laws.specs.Alone.{LeavesAloneFrom}
use Rattle.driver_laws.specs.StartPrelude.{Block, Blocks, Call, Entry, Event, IsEvent, IsSound, State, Watched, after}
use Rattle.driver_laws.specs.StartPrelude.{call_in, calls_of, leads_to, reply_to}
use Rattle.driver_laws.specs.{Moves.IsMet, Standing.IsLeft}

-- The history begins with a sound device in any state, which has as many virtual functions as `w` says. The history is
-- legal and leaves the queue alone.
pub record IsAlong (w : Watched) (origin : State) (h : List Entry) : Type 0 where
  pub small : w.queue < 128
  pub sound : IsSound origin
  pub vfs : w.vfs ≡ origin.vfs
  pub events : AreEvents h
  pub legal : IsLegal origin h
  pub alone : LeavesAloneFrom w origin h

-- `P` holds for the entries up to each point of the history where the pass has made exactly these calls.
abbrev pub AtEntries : Watched → List Entry → List Call → (List Entry → Type 0) → Type 0
AtEntries w h calls P =
    (done rest : List Entry) → done ++ rest ≡ h → calls_of w.pass done ≡ calls → P done

-- `P` holds for the state at each point where the pass has made exactly these calls.
abbrev pub AtCalls : Watched → State → List Entry → List Call → (State → Type 0) → Type 0
AtCalls w origin h calls P = AtEntries w h calls (λ done. P (leads_to origin done))

-- `P` holds just before the pass makes the last of the given calls.
abbrev pub BeforeLast : Watched → State → List Entry → List Call → (State → Type 0) → Type 0
BeforeLast w origin h calls P =
    (done rest : List Entry) (e : Entry) → done ++ e ∷ rest ≡ h → e.pass ≡ w.pass →
    calls_of w.pass done ++ call_in e ∷ [] ≡ calls → P (leads_to origin done)

-- If `P` holds before an event that leaves the queue alone, it holds after the event.
abbrev pub IsKept : Watched → Blocks → (State → Type 0) → Type 0
IsKept w mine P = (s : State) (e : Event Block) → IsLeft w mine s e → P s → P (after s e)

-- If the driver's pass makes the call `c` in a state where `P` holds, `Q` holds after the call.
abbrev pub Leads : ℕ → Call → (State → Type 0) → (State → Type 0) → Type 0
Leads queue c P Q =
    (s : State) → IsMet queue s → IsEvent c.event → c.reply ≡ reply_to s c.event → P s → Q (after s c.event)
