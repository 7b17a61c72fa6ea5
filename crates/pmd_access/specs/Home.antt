-- Blocks that were taken from an arena, and how they return to it.
use Rattle.std.specs.Prelude.{◌≡◌, ℕ, zero, suc, ◌+◌, ◌<◌, ◌≤◌, ◌⊎◌, true, false, List, [], ◌∷◌, ◌++◌, length, if◌then◌else◌}
use Rattle.device_lock.specs.NicDevice.DmaArena.Block.{Block}
use Rattle.device_lock.specs.NicDevice.DmaArena.Numbers.{Numbers, is_own, is_free, with_free}
use Rattle.device_lock.specs.NicDevice.DmaArena.Whereabouts.{times_in_hand}
use Rattle.device_lock.specs.NicDevice.declared.event.Event.TheVariants as event
use Rattle.device_lock.specs.NicDevice.declared.event.Reply.TheVariants as reply
use Rattle.device_lock.specs.declared.entry.Call.{Call}
use Rattle.pmd_access.specs.Made.{Adds, AddsSome}

-- No number is both free in the arena and in this list, and no number is in the list twice. A number that the arena
-- doesn't own is neither free nor in the list.
abbrev pub AreOut : Numbers → List ℕ → Type 0
AreOut a out =
    (number : ℕ)
    → (if is_free a number then 1 else 0) + times_in_hand out number ≤ (if is_own a number then 1 else 0)

-- These blocks were taken from the arena, one after the other. Each block was free before.
abbrev pub IsDrawn : Numbers → List ℕ → Numbers → Type 0
IsDrawn a [] b = b ≡ a
IsDrawn a (n ∷ ns) b = (is_free a n ≡ true) × IsDrawn (with_free a n false) ns b

-- The blocks in `new` are the blocks in `out`, together with some blocks taken from the arena.
abbrev pub Exchanges : Numbers → List ℕ → Numbers → List ℕ → Type 0
Exchanges a out b new =
    (drawn : List ℕ) × IsDrawn a drawn b
    × ((number : ℕ) → times_in_hand new number ≡ times_in_hand (drawn ++ out) number)

-- Blocks that are being returned to their arena: the numbers of the blocks still lent, and a count of the blocks that
-- the device no longer had.
pub record Homebound : Type 0 where
  pub lent : List ℕ
  pub lost : ℕ

-- The calls made, an arena, and the blocks that are being returned to it.
pub record Bringing : Type 0 where
  pub made : List Call
  pub arena : Numbers
  pub way : Homebound

-- The block was taken back and returned to the arena.
pub record IsBrought (n : ℕ) (s t : Bringing) : Type 0 where
  pub taken : (b : Block) × (b.number ≡ n) × Adds s.made t.made (event.Take n) (reply.Buf b)
  pub arena : t.arena ≡ with_free s.arena n true
  pub lost : t.way.lost ≡ s.way.lost

-- The device no longer had the block.
pub record IsMissed (n : ℕ) (s t : Bringing) : Type 0 where
  pub taken : Adds s.made t.made (event.Take n) reply.NotLent
  pub arena : t.arena ≡ s.arena
  pub lost : t.way.lost ≡ s.way.lost + 1

-- The first block was returned or is lost.
abbrev pub BringsOne : Bringing → Bringing → Type 0
BringsOne s t = (n : ℕ) × (s.way.lent ≡ n ∷ t.way.lent) × (IsBrought n s t ⊎ IsMissed n s t)

-- This many blocks, in order, were returned or are lost.
abbrev pub Brings : ℕ → Bringing → Bringing → Type 0
Brings zero s t = t ≡ s
Brings (suc count) s t = (mid : Bringing) × Brings count s mid × BringsOne mid t

-- Every block, in order, was returned to the arena or is lost.
abbrev pub BringsAll : Bringing → Bringing → Type 0
BringsAll s t = (count : ℕ) × Brings count s t × (t.way.lent ≡ [])

-- Some blocks, possibly none, were returned to the arena or are lost. Then the call that takes the next block was
-- refused, and only device steps were added for this call.
abbrev pub StopsBringing : Bringing → Bringing → Type 0
StopsBringing s t =
    (count : ℕ) × (mid : Bringing) × Brings count s mid
    × AddsSome mid.made t.made × (t.arena ≡ mid.arena) × (t.way ≡ mid.way) × (0 < length mid.way.lent)
