-- Why a driver call fails.
use Rattle.std.specs.Prelude.{ℕ, ◌≡◌, ◌+◌, ◌<◌, ◌||◌, not, Bool, true, false, List, length, IsFalse, ⊤}
use Rattle.pmd_access.specs.NicDevice.DmaArena.Block.{Block}
use Rattle.pmd_access.specs.NicDevice.DmaArena.Numbers.{Numbers, free_count}
use Rattle.pmd_access.specs.NicDevice.DmaRing.Descriptor.{second_half}
use Rattle.pmd_access.specs.NicDevice.DmaRing.Receive.{is_done}
use Rattle.pmd_access.specs.NicDevice.declared.event.Event.{Event}
use Rattle.pmd_access.specs.NicDevice.declared.event.Event.TheVariants as event
use Rattle.pmd_access.specs.NicDevice.declared.event.Reply.{Reply}
use Rattle.pmd_access.specs.NicDevice.declared.event.Reply.TheVariants as reply
use Rattle.pmd_access.specs.DeviceLock.declared.entry.Call.{Call}
use Rattle.pmd_access.specs.Made.{Adds}
use Rattle.pmd_access.specs.declared.fault.PmdFault.{PmdFault}
use Rattle.pmd_access.specs.declared.fault.PmdFault.TheVariants as fault
use Rattle.pmd_rx.specs.Plays.{LendsFree, PlaysFrom}
use Rattle.pmd_rx.specs.Receive.{Receive, IsOwn, is_part}
use Rattle.pmd_rx.specs.declared.ring.Stage.{Stage}
use Rattle.pmd_rx.specs.declared.ring.Stage.TheVariants.{Looks, Takes, Owes, Lent}

-- The descriptor isn't done, or it reports a valid part of a packet after those already seen.
abbrev pub is_whole : Receive → List ℕ → Bool
is_whole v d = not (is_done (second_half d)) || is_part v.layout.most (length v.seen) (second_half d)

-- Whether a healthy queue may send this reply to the driver's event.
abbrev pub is_healthy : Receive → Event Block → Reply Block → Bool
is_healthy v (event.Peek16 address) (reply.Bytes d) = is_whole v d
is_healthy v (event.Take number) (reply.Buf block) = true
is_healthy v (event.Lend block) reply.Done = true
is_healthy v (event.Poke16 address bytes) reply.Done = true
is_healthy v (event.Write port number word) reply.Done = true
is_healthy v e r = false

-- The last call was the driver's own, and its reply isn't one that a healthy queue sends. The call left the driver
-- unchanged. Each block that the driver lent before this call, or that this call was to lend, was free in the arena.
abbrev pub EndsWrong : Numbers → List Call → Receive → List Call → Receive → Type 0
EndsWrong a old v new w =
    (mid : List Call) × (e : Event Block) × (r : Reply Block)
    × PlaysFrom a old v mid w × IsOwn w e × LendsFree a true e × Adds mid new e r × IsFalse (is_healthy w e r)

-- A packet is waiting: the driver has seen it, or has taken parts of it.
abbrev pub PacketWaits : Stage → Type 0
PacketWaits Looks = ⊥
PacketWaits Takes = ⊤
PacketWaits Owes = ⊤
PacketWaits (Lent b) = ⊤

-- `wanted`: the number of free blocks that the driver needs, one for each part seen, plus `owed`. `owed`: 1 if the
-- driver must lend one block more than that, otherwise 0.
abbrev pub owed : Stage → ℕ
owed Looks = 1
owed Takes = 0
owed Owes = 1
owed (Lent b) = 0

abbrev pub wanted : Receive → ℕ
wanted v = length v.seen + owed v.stage

-- Too few blocks are free. The driver is unchanged except for what it has seen and its stage.
pub record IsShort (a : Numbers) (v : Receive) (b : Numbers) (w : Receive) : Type 0 where
  pub few : free_count a < wanted w
  pub arena : b ≡ a
  pub layout : w.layout ≡ v.layout
  pub handed : w.handed ≡ v.handed
  pub held : w.held ≡ v.held
  pub whole : w.whole ≡ v.whole
  pub named : w.named ≡ v.named

-- The refused event is one that the driver may cause next. This event looks at the next slot, takes the block there, or
-- lends a block that is free in the arena. Otherwise, it names the lent block in the vacant slot's descriptor, or
-- writes the tail.
abbrev pub AsksNext : Numbers → Receive → Type 0
AsksNext a w = (e : Event Block) × IsOwn w e × LendsFree a true e

-- After these calls, which took the driver from state `v` to state `w`, the device sent a wrong reply (`DeviceFault`)
-- or the driver's next event was refused (`Call`).
abbrev pub IsFault : PmdFault → Numbers → List Call → Receive → List Call → Receive → Type 0
IsFault fault.DeviceFault a old v new w = EndsWrong a old v new w
IsFault (fault.Call refusal) a old v new w = AsksNext a w
IsFault fault.BadSize a old v new w = ⊥
IsFault fault.ForeignBlock a old v new w = ⊥
IsFault fault.StartTimeout a old v new w = ⊥
IsFault fault.NoBuffer a old v new w = ⊥

-- The call failed for one of these reasons, given the arena before and after: too few blocks are free for a waiting
-- packet (`NoBuffer`), the device sent a wrong reply (`DeviceFault`), or the driver's next event was refused (`Call`).
abbrev pub FailsBy : PmdFault → List Call → Numbers → Receive → List Call → Numbers → Receive → Type 0
FailsBy fault.NoBuffer old a v new b w = IsShort a v b w
FailsBy fault.DeviceFault old a v new b w = EndsWrong a old v new w
FailsBy (fault.Call refusal) old a v new b w = AsksNext a w
FailsBy fault.BadSize old a v new b w = ⊥
FailsBy fault.ForeignBlock old a v new b w = ⊥
FailsBy fault.StartTimeout old a v new b w = ⊥
