-- Frames that arrive from the link.
use Rattle.std.specs.Prelude.{ℕ, List, ⊤}
use Rattle.pmd_access.specs.NicDevice.DmaArena.Block.{Block}
use Rattle.pmd_access.specs.NicDevice.declared.event.Event.TheVariants as event
use Rattle.pmd_access.specs.NicDevice.declared.event.Reply.{Reply}
use Rattle.pmd_access.specs.NicDevice.declared.event.Reply.TheVariants as reply
use Rattle.pmd_access.specs.DeviceLock.declared.entry.Call.{Call}
use Rattle.pmd_access.specs.Made.{Adds}
use Rattle.pmd_access.specs.declared.fault.PmdFault.{PmdFault}
use Rattle.pmd_access.specs.declared.fault.PmdFault.TheVariants as fault
use Rattle.pmd_driver.specs.declared.arriving.Arrived.{Arrived}
use Rattle.pmd_driver.specs.declared.arriving.Arrived.TheVariants.{Taken, Dropped}

-- The reply that reports what the device did with a frame.
abbrev pub reply_of : Arrived → Reply Block
reply_of Taken = reply.Done
reply_of (Dropped why) = reply.Dropped why

-- After some device steps, a frame with these bytes arrived, and the device did with it what `arrived` says.
abbrev pub Arrives : List Call → List Call → List ℕ → Arrived → Type 0
Arrives old new frame arrived = Adds old new (event.Arrive frame) (reply_of arrived)

-- The fault is a refused call.
abbrev pub IsRefusal : PmdFault → Type 0
IsRefusal (fault.Call refusal) = ⊤
IsRefusal other = ⊥
