-- A queue with both sides switched off, and what is then received and sent on it.
use Rattle.std.specs.Prelude.{[], ◌++◌, ◌≡◌, ◌≢◌, List, false, ℕ}
use Rattle.ring_laws.specs.Delivered.{delivered}
use Rattle.driver_laws.specs.StartPrelude.{AtPort, Call, Entry, IsSwitched, State, Watched, calls_of, sent_since}
use Rattle.driver_laws.specs.{Along.AtCalls, Along.IsAlong, Points.HasGround, Quieting.IsQuiet, Stopping.Ends}

-- At each point where the pass has just switched both sides off, both sides are off with no enable request pending. The
-- premise: Just before the switch-off, the driver's port and queue number identified this queue, and the device's frame
-- limit was the driver's packet limit.
abbrev pub SwitchingOffLeads : Type 0
SwitchingOffLeads =
    (w : Watched) (q : AtPort) (frame : ℕ) (origin : State) (h : List Entry) (old new : List Call) →
    IsAlong w origin h → IsSwitched q old new false 1000 → old ≢ [] →
    AtCalls w origin h old (HasGround w.queue q frame) → AtCalls w origin h new (IsQuiet w.queue q frame)

-- Nothing is delivered or sent on the queue after the first entries (`done`). This holds if both sides are off at that
-- point, with no enable request pending, and the pass makes only calls of a stop after it.
pub record IsSilent (w : Watched) (origin : State) (h done : List Entry) : Type 0 where
  pub delivered : delivered w.queue origin h ≡ delivered w.queue origin done
  pub sent : sent_since w.queue origin [] h ≡ sent_since w.queue origin [] done

abbrev pub QuietQueueIsSilent : Type 0
QuietQueueIsSilent =
    (w : Watched) (q : AtPort) (frame : ℕ) (origin : State) (h done rest : List Entry) (old new : List Call) →
    IsAlong w origin h → old ≢ [] → AtCalls w origin h old (IsQuiet w.queue q frame) → Ends q old new →
    calls_of w.pass h ≡ new → done ++ rest ≡ h → calls_of w.pass done ≡ old → IsSilent w origin h done
