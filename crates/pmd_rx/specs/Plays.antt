-- How the driver's state follows from the calls made. A mark for each call says whether it is the driver's own.
use Rattle.std.specs.Prelude.{ℕ, ◌≡◌, ◌<◌, Bool, true, false, not, List, [], ◌∷◌, ◌++◌, length, IsFalse, ⊤, if◌then◌else◌}
use Rattle.pmd_access.specs.NicDevice.DmaArena.Block.{Block}
use Rattle.pmd_access.specs.NicDevice.DmaArena.Numbers.{Numbers, is_free}
use Rattle.pmd_access.specs.NicDevice.DmaRing.Descriptor.{second_half}
use Rattle.pmd_access.specs.NicDevice.DmaRing.Receive.{is_done}
use Rattle.pmd_access.specs.NicDevice.declared.event.Event.{Event}
use Rattle.pmd_access.specs.NicDevice.declared.event.Event.TheVariants as event
use Rattle.pmd_access.specs.NicDevice.declared.event.Reply.TheVariants as reply
use Rattle.pmd_access.specs.DeviceLock.declared.entry.Call.{Call}
use Rattle.pmd_access.specs.Made.{Adds, StepsWhere}
use Rattle.pmd_rx.specs.Receive.{Receive, IsOwn, drive, descriptor_at, no_packet}
use Rattle.pmd_rx.specs.declared.ring.Stage.TheVariants.{Looks}

-- The driver's state after one call; only the driver's own call changes it.
abbrev pub after_call : Receive → Bool → Call → Receive
after_call v mark n = if mark then drive v n.event n.reply else v

-- The driver's state after its own calls among these calls. This is all that the driver's code knows about its ring.
abbrev pub played_by : Receive → List Bool → List Call → Receive
played_by v [] calls = v
played_by v (m ∷ marks) [] = v
played_by v (m ∷ marks) (n ∷ calls) = played_by (after_call v m n) marks calls

-- `OwnCall`: if the call is marked, the driver may make it in this state. `AllOwn`: this is true of each call in the
-- list, in the driver's state at that call.
abbrev pub OwnCall : Bool → Receive → Call → Type 0
OwnCall true v n = IsOwn v n.event
OwnCall false v n = ⊤

abbrev pub AllOwn : Receive → List Bool → List Call → Type 0
AllOwn v [] [] = ⊤
AllOwn v [] (n ∷ calls) = ⊥
AllOwn v (m ∷ marks) [] = ⊥
AllOwn v (m ∷ marks) (n ∷ calls) = OwnCall m v n × AllOwn (after_call v m n) marks calls

-- Each unmarked call is a device step.
abbrev pub OthersStep : List Bool → List Call → Type 0
OthersStep marks calls = StepsWhere not marks calls

-- Some calls were made. The marked calls are the driver's own and take it from state `v` to state `w`; the unmarked
-- calls are device steps.
abbrev pub Plays : List Call → Receive → List Call → Receive → Type 0
Plays old v new w =
    (marks : List Bool) × (since : List Call) × (new ≡ old ++ since) × AllOwn v marks since
    × (w ≡ played_by v marks since) × OthersStep marks since

-- If the event is marked and lends a block, the block is free in this arena.
abbrev pub LendsFree : Numbers → Bool → Event Block → Type 0
LendsFree a true (event.Lend b) = is_free a b.number ≡ true
LendsFree a mark e = ⊤

-- Each marked call that lends a block lends one that is free in this arena.
abbrev pub AllLendFree : Numbers → List Bool → List Call → Type 0
AllLendFree a [] calls = ⊤
AllLendFree a (m ∷ marks) [] = ⊤
AllLendFree a (m ∷ marks) (n ∷ calls) = LendsFree a m n.event × AllLendFree a marks calls

-- The calls made are device steps and the driver's own calls, which take it from state `v` to state `w`. Each block
-- that the driver lent was free in the arena.
pub record PlaysFrom (a : Numbers) (old : List Call) (v : Receive) (new : List Call) (w : Receive) : Type 0 where
  pub plays : Plays old v new w
  pub free : AllLendFree a plays.0 plays.1

-- The driver looked at a packet's slots, starting at the next slot, and found that the slot after those it has seen
-- isn't done. It holds no packet and no named block. Nothing about the driver changed except what it has seen.
pub record LooksInVain (old : List Call) (v : Receive) (new : List Call) (w : Receive) : Type 0 where
  pub mid : List Call
  pub looks : Plays old v mid w
  pub bytes : List ℕ
  pub last : Adds mid new (event.Peek16 (descriptor_at w.layout (length w.seen))) (reply.Bytes bytes)
  pub waits : IsFalse (is_done (second_half bytes))
  pub stage : w.stage ≡ Looks
  pub posted : length w.seen < length w.layout.blocks
  pub holds_none : w.held ≡ no_packet
  pub none_whole : w.whole ≡ []
  pub none_named : w.named ≡ []
  pub left : w ≡ record v { seen = w.seen }
