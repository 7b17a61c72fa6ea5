-- A driver whose author makes any other calls alongside it. Suppose that nobody else lends a block of the driver's
-- arena that the driver tries to lend. Then none of the driver's calls gets a reply that no healthy queue sends, and
-- each block is in one place.
use Rattle.std.specs.Prelude.{if◌then◌else◌, ◌+◌, ◌++◌, ◌≡◌, IsTrue, List, ℕ}
use Rattle.driver_laws.specs.StartPrelude.{Call, arena_of, calls_of}
use Rattle.driver_laws.specs.StartPrelude.{halted_of, has_block, is_free, is_own, places_of}
use Rattle.driver_laws.specs.StartPrelude.{times_in_hand}
use Rattle.driver_laws.specs.{Asked.OthersLendNone, Asked.asked_of, Places.Balances, Places.lent_elsewhere}
use Rattle.driver_laws.specs.{Places.is_out, Places.memory_after, Prelude.BeforeLast, Reported.Moment}
use Rattle.driver_laws.specs.Beside.{Beside, IsReportedBeside, now}
use Rattle.driver_laws.specs.Faultless.{FindsFault, IsFresh, MeetsFault, NoneLent}

-- In the retagged history, the pass made the driver's own calls up to its last moment, then the calls of one more
-- driver call, and perhaps more calls. Just before the driver's first access, the waiting frames fit the driver's
-- packets, and the blocks of its arena that it tries to lend weren't lent. After the first entry of the driver's pass,
-- neither another pass nor the author tries to lend any of these blocks.
pub record IsCalledApart (x : Beside) (n : Moment) : Type 0 where
  pub fresh :
      BeforeLast x.w x.origin x.g (x.ahead ++ x.reported.first) (IsFresh x.w.queue x.frame (asked_of x.w x.a x.g))
  pub others : OthersLendNone x.w.pass (asked_of x.w x.a x.g) x.g
  pub since : List Call
  pub made : n.made ≡ (now x).made ++ since
  pub more : List Call
  pub all : calls_of x.w.pass x.g ≡ (x.own ++ since) ++ more

-- In a history of this kind, no driver call ends with a reply that no healthy queue sends. No `tx_burst` gets such a
-- reply, whatever it returns.

abbrev pub NoCallFindsFault : Type 0
NoCallFindsFault = (x : Beside) (n : Moment) → FindsFault (now x) n → ¬ IsCalledApart x n

abbrev pub NoBurstMeetsFault : Type 0
NoBurstMeetsFault = (x : Beside) (n : Moment) → MeetsFault (now x) n → ¬ IsCalledApart x n

-- Each block that the driver still has in use (that is out) is lent to the device.
abbrev pub OutIsLent : Type 0
OutIsLent =
    (x : Beside) → IsReportedBeside x → (number : ℕ) → IsTrue (is_out (now x).driver.rings number) →
    IsTrue (has_block (memory_after x.origin x.h) number)

-- The blocks of its arena that the driver tries to lend weren't lent just before its first access. After the first
-- entry of its pass, nobody else tries to lend any of them.
pub record IsAloneBeside (x : Beside) : Type 0 where
  pub reported : IsReportedBeside x
  pub fresh : BeforeLast x.w x.origin x.g (x.ahead ++ x.reported.first) (NoneLent (asked_of x.w x.a x.g))
  pub others : OthersLendNone x.w.pass (asked_of x.w x.a x.g) x.g

-- Each block of the arena that the driver tries to lend is out if it is lent to the device.
abbrev pub LentIsOut : Type 0
LentIsOut =
    (x : Beside) → IsAloneBeside x → (number : ℕ) → IsTrue (asked_of x.w x.a x.g number) →
    IsTrue (has_block (memory_after x.origin x.h) number) → IsTrue (is_out (now x).driver.rings number)

-- When the arena was handed to the driver, some of its blocks were free in it and some were outside it. Each of these
-- blocks is in one place. Others may have lent blocks that were outside the arena then, or that the driver handed out.
abbrev pub EachInOnePlace : Type 0
EachInOnePlace =
    (x : Beside) → IsAloneBeside x → (outside hand elsewhere : List ℕ) →
    Balances x.a outside (halted_of (now x).driver.rings) (hand ++ elsewhere) → (number : ℕ) →
    IsTrue (is_own x.a number) →
    times_in_hand elsewhere number
    ≡ lent_elsewhere (calls_of x.w.pass x.g) (memory_after x.origin x.h) number →
    places_of (arena_of (now x).driver.rings) ((halted_of (now x).driver.rings).held ++ hand)
    (memory_after x.origin x.h) number
    ≡ (if is_free x.a number then 1 else 0) + times_in_hand outside number
