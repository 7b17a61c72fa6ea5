-- Frames that arrive through a pass.
use Rattle.std.specs.Prelude.{◌≡◌, ℕ, Bool, true, false, List, [], ◌∷◌, ◌++◌, ◌<◌, length, map, take, drop, count_by, Option, Some, None}
use Rattle.pmd_driver.specs.NicDevice.DmaArena.Block.{Block}
use Rattle.pmd_driver.specs.NicDevice.declared.event.Event.TheVariants.{Arrive}
use Rattle.pmd_driver.specs.NicDevice.declared.event.Reply.{Reply}
use Rattle.pmd_driver.specs.NicDevice.declared.event.Reply.TheVariants.{Done}
use Rattle.pmd_driver.specs.DeviceLock.declared.entry.Call.{Call}
use Rattle.pmd_driver.specs.DeviceLock.declared.fault.CallFault.{CallFault}
use Rattle.pmd_driver.specs.DeviceLock.declared.fault.CallFault.TheVariants.{ForeignPass}
use Rattle.pmd_driver.specs.DeviceLock.Pass.{PassValue}

abbrev pub is_done : Reply Block → Bool
is_done Done = true
is_done other = false

-- The number of these calls that got the reply `Done`.
abbrev pub done_in : List Call → ℕ
done_in calls = count_by (λ (c : Call). is_done c.reply) calls

-- The calls that were added to a pass.
abbrev pub gained : PassValue → PassValue → List Call
gained old new = drop (length old.calls) new.calls

-- Each of these frames arrived through the pass, in order, and the pass made no other call.
pub record HaveArrived (frames : List (List ℕ)) (old new : PassValue) : Type 0 where
  pub since : List Call
  pub made : new ≡ record old { calls = old.calls ++ since }
  pub events : map (λ (c : Call). c.event) since ≡ map (λ (frame : List ℕ). Arrive frame) frames

-- All of these frames arrived, or only the frames before the one whose call was refused.
abbrev pub IsFed : List (List ℕ) → Option (CallFault (Unit {0})) → PassValue → PassValue → Type 0
IsFed frames None old new = HaveArrived frames old new
IsFed frames (Some refusal) old new =
    (count : ℕ) × (count < length frames) × HaveArrived (take count frames) old new

-- The first of these frames arrived, possibly none.
abbrev pub AreFed : List (List ℕ) → PassValue → PassValue → Type 0
AreFed frames old new = (count : ℕ) × HaveArrived (take count frames) old new

-- The first frame, if there is one, was refused because the pass is foreign.
abbrev pub IsTurnedAway : {T : Type 0} → List T → Option (CallFault (Unit {0})) → Type 0
IsTurnedAway [] refused = refused ≡ None
IsTurnedAway (frame ∷ frames) refused = refused ≡ Some (ForeignPass tt)
