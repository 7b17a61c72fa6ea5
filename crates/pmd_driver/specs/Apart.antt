-- What a driver's two halves lend: only blocks with the driver's own numbers, and none that the other half has lent.
use Rattle.std.specs.Prelude.{ℕ, ◌≡◌, Bool, IsTrue, IsFalse, ⊤, List, [], ◌∷◌}
use Rattle.pmd_access.specs.NicDevice.DmaArena.Block.{Block}
use Rattle.pmd_access.specs.NicDevice.DmaArena.Numbers.{Numbers, is_own}
use Rattle.pmd_access.specs.NicDevice.declared.event.Event.{Event}
use Rattle.pmd_access.specs.NicDevice.declared.event.Event.TheVariants as event
use Rattle.pmd_access.specs.NicDevice.declared.event.Reply.{Reply}
use Rattle.pmd_access.specs.DeviceLock.Alone.{Blocks}
use Rattle.pmd_access.specs.DeviceLock.Pass.{call_of}
use Rattle.pmd_access.specs.DeviceLock.declared.entry.Call.{Call}
use Rattle.pmd_access.specs.Made.{Adds}
use Rattle.pmd_access.specs.declared.fault.PmdFault.{PmdFault}
use Rattle.pmd_access.specs.declared.fault.PmdFault.TheVariants.{DeviceFault}
use Rattle.pmd_rx.specs.Keeping as receiving
use Rattle.pmd_rx.specs.Wrong as looking
use Rattle.pmd_tx.specs.Sending as sending
use Rattle.pmd_tx.specs.Sending.{Elsewhere}
use Rattle.pmd_driver.specs.Halves.{Halves, Doer, Receives, Sends, Drives, OwnCall, after_call, halves_of}
use Rattle.pmd_driver.specs.Running.{Running}

-- A half may lend a block if the block's number is in `own` and the other half hasn't lent the block. Nobody else lends
-- a block with a number in `own`.
abbrev pub MayLend : Blocks → Halves → Doer → ℕ → Type 0
MayLend own h Receives n = IsTrue (own n) × IsFalse (sending.has_lent h.transmit n)
MayLend own h (Sends Elsewhere) n = IsFalse (own n)
MayLend own h (Sends m) n = IsTrue (own n) × IsFalse (receiving.has_lent h.receive n)

-- If the event lends a block, this is a block that the doer may lend.
abbrev pub LendsApart : Blocks → Halves → Doer → Event Block → Type 0
LendsApart own h d (event.Lend block) = MayLend own h d block.number
LendsApart own h d other = ⊤

-- `LendsApart` holds for each of these calls.
abbrev pub AllLendApart : Blocks → Halves → List Doer → List Call → Type 0
AllLendApart own h [] calls = ⊤
AllLendApart own h (d ∷ doers) [] = ⊤
AllLendApart own h (d ∷ doers) (n ∷ calls) =
    LendsApart own h d n.event × AllLendApart own (after_call h d n) doers calls

-- Each call is made by one of the halves or is a device step. The calls take the halves from state `h` to state `k`,
-- and each half lends only blocks that it may lend.
pub record DrivesApart (own : Blocks) (old : List Call) (h : Halves) (new : List Call) (k : Halves) : Type 0 where
  pub drives : Drives old h new k
  pub apart : AllLendApart own h drives.0 drives.1

-- The two arenas own the same numbers.
abbrev pub OwnsSame : Numbers → Numbers → Type 0
OwnsSame a b = (n : ℕ) → is_own b n ≡ is_own a n

-- Each call is made by one of the halves or is a device step. A half lends only blocks that the arena owns and that the
-- other half hasn't lent; device steps lend none. The arena still owns the same numbers.
pub record DrivesRings (old : List Call) (r : Running) (new : List Call) (s : Running) : Type 0 where
  pub apart : DrivesApart (is_own r.arena) old (halves_of r) new (halves_of s)
  pub owns : OwnsSame r.arena s.arena

-- Whether a healthy queue sends this reply to a half's call.
abbrev pub is_healthy : Halves → Doer → Call → Bool
is_healthy h Receives n = looking.is_healthy h.receive n.event n.reply
is_healthy h (Sends m) n = sending.is_healthy m n.reply

-- Each call is made by one of the halves or is a device step, and each half lends only blocks that it may lend. The
-- last call got a reply that a healthy queue never sends.
pub record FindsFault (own : Blocks) (old : List Call) (h : Halves) (new : List Call) : Type 0 where
  pub mid : List Call
  pub there : Halves
  pub doer : Doer
  pub event : Event Block
  pub reply : Reply Block
  pub drives : DrivesApart own old h mid there
  pub mine : OwnCall there doer (call_of event reply)
  pub apart : LendsApart own there doer event
  pub adds : Adds mid new event reply
  pub sick : IsFalse (is_healthy there doer (call_of event reply))

-- After `DeviceFault`, `FindsFault` holds for these calls. Other faults require nothing.
abbrev pub FindsBy : PmdFault → Blocks → List Call → Halves → List Call → Type 0
FindsBy DeviceFault own old h new = FindsFault own old h new
FindsBy fault own old h new = ⊤
