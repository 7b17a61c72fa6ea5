-- Where a driver's blocks are. The blocks that the driver's halves still have in use are lent to the device. No other
-- block that the driver tries to lend is lent.
use Rattle.std.specs.Prelude.{[], if◌then◌else◌, ◌&&◌, ◌+◌, ◌++◌, ◌≡◌, Bool, IsTrue, List, ℕ, false, not}
use Rattle.driver_laws.specs.{Before.is_asked, Healthy.lent_by, StartPrelude.Call, StartPrelude.calls_of}
use Rattle.driver_laws.specs.StartPrelude.{Down, Entry, Halted, HasAll, Memory, Numbers, Rings, State, Up, arena_of}
use Rattle.driver_laws.specs.StartPrelude.{halted_of, halves_of, has_block, is_free, is_own, leads_to, places_of}
use Rattle.driver_laws.specs.StartPrelude.{times_in_hand}
use Rattle.driver_laws.specs.{Asked.OthersLendNone, Asked.asked_of, Faultless.NoneLent, Prelude.BeforeLast}
use Rattle.driver_laws.specs.Reported.{IsReportedOf, Reported, now}
use Rattle.pmd_driver.specs.Blocks.{KeepsBlocks, KeepsEach}
use Rattle.pmd_driver.specs.{Halted.all_out, PmdAccess.Home.AreOut}

-- Whether one of a running driver's halves has this block in use, so that it isn't free in the arena. Such a block
-- belongs to a ring, is posted or about to be posted, or is a lent part of an outstanding packet.
abbrev pub is_out : Rings → ℕ → Bool
is_out (Up r) n = lent_by (halves_of r) n
is_out (Down h) n = false

-- The memory that is lent to the device, in the state that these entries led to.
abbrev pub memory_after : State → List Entry → Memory
memory_after origin h = (leads_to origin h).memory

-- Each block that is out is lent to the device.
abbrev pub OutIsLent : Type 0
OutIsLent =
    (x : Reported) → IsReportedOf x → (number : ℕ) → IsTrue (is_out (now x).driver.rings number) →
    IsTrue (has_block (memory_after x.origin x.h) number)

-- The blocks of its arena that the driver's pass tries to lend weren't lent just before its first access. After the
-- pass's first entry, no other pass tries to lend any of them.
pub record IsReportedAlone (x : Reported) : Type 0 where
  pub reported : IsReportedOf x
  pub fresh : BeforeLast x.w x.origin x.h x.reported.started.2.receive.quiet.0 (NoneLent (asked_of x.w x.a x.h))
  pub others : OthersLendNone x.w.pass (asked_of x.w x.a x.h) x.h

-- Each block of the arena that the pass tries to lend is out if it is lent to the device.
abbrev pub LentIsOut : Type 0
LentIsOut =
    (x : Reported) → IsReportedAlone x → (number : ℕ) → IsTrue (asked_of x.w x.a x.h number) →
    IsTrue (has_block (memory_after x.origin x.h) number) → IsTrue (is_out (now x).driver.rings number)

-- Which blocks a driver's arena accounts for. When the arena was handed to the driver, the blocks `outside` were
-- outside it, each once: in hand, or lent by others. Each block that was free in the arena or outside it then is now
-- free in the arena, out, or in hand. No other block is.
pub record Balances (a : Numbers) (outside : List ℕ) (h : Halted) (hand : List ℕ) : Type 0 where
  pub once : AreOut a outside
  pub all : KeepsEach a outside h.arena (all_out h ++ hand)

-- The blocks balance when the driver starts, with the blocks that were outside the arena counted as in hand. They
-- balance after each call, as the call's clause `blocks` says. The blocks that were passed to the call are no longer in
-- hand. The blocks that the call hands out, or leaves in a list that was passed to it, are in hand. The order of the
-- blocks in hand doesn't matter.
pub record BooksGoOn : Type 0 where
  pub start :
      (a : Numbers) (outside : List ℕ) (h : Halted) → AreOut a outside → HasAll a h []
      → Balances a outside h outside
  pub call :
      (a : Numbers) (outside : List ℕ) (old new : Rings) (given back rest : List ℕ) → KeepsBlocks old given new back
      → Balances a outside (halted_of old) (given ++ rest) → Balances a outside (halted_of new) (back ++ rest)
  pub order :
      (a : Numbers) (outside : List ℕ) (h : Halted) (hand other : List ℕ)
      → ((number : ℕ) → times_in_hand hand number ≡ times_in_hand other number) → Balances a outside h hand
      → Balances a outside h other

-- 1 if the block is lent but these calls don't try to lend it, because others had the block in hand and lent it;
-- otherwise 0.
abbrev pub lent_elsewhere : List Call → Memory → ℕ → ℕ
lent_elsewhere calls m number = if has_block m number && not (is_asked calls number) then 1 else 0

-- When the arena was handed to the driver, some of its blocks were free in it and some were outside it. Each of these
-- blocks is in one place: free in the arena, in hand, or lent to the device. No other block of the arena is in any of
-- these places. Blocks of packets that the driver holds, complete or not, count as in hand too, as do the blocks of
-- parts that wait to be lent. Others may have lent some of the blocks that were outside the arena or that the driver
-- handed out.
abbrev pub EachInOnePlace : Type 0
EachInOnePlace =
    (x : Reported) → IsReportedAlone x → (outside hand elsewhere : List ℕ) →
    Balances x.a outside (halted_of (now x).driver.rings) (hand ++ elsewhere) → (number : ℕ) →
    IsTrue (is_own x.a number) →
    times_in_hand elsewhere number
    ≡ lent_elsewhere (calls_of x.w.pass x.h) (memory_after x.origin x.h) number →
    places_of (arena_of (now x).driver.rings) ((halted_of (now x).driver.rings).held ++ hand)
    (memory_after x.origin x.h) number
    ≡ (if is_free x.a number then 1 else 0) + times_in_hand outside number
