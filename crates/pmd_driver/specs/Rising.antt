-- What the steps of a start require, and the result of each.
use Rattle.std.specs.Prelude.{ℕ, ◌≡◌, ◌≤◌, ◌+◌, ◌-◌, ◌*◌, true, false, List, [], None, Result, Ok, Err, OnOk, IfErr}
use Rattle.pmd_access.specs.NicDevice.DmaArena.Block.{zero_block}
use Rattle.pmd_access.specs.NicDevice.DmaArena.Numbers.{Numbers, free_count, with_free}
use Rattle.pmd_access.specs.NicDevice.DmaArena.Run.{IsFreeRun}
use Rattle.pmd_access.specs.NicDevice.DmaRing.declared.dir.Dir.{Dir}
use Rattle.pmd_access.specs.NicDevice.DmaRing.declared.dir.Dir.TheVariants.{Tx}
use Rattle.pmd_access.specs.DeviceLock.declared.entry.Call.{Call}
use Rattle.pmd_access.specs.Accesses.{IsLent}
use Rattle.pmd_access.specs.Frames.{is_frame}
use Rattle.pmd_access.specs.Home.{AreOut, IsDrawn}
use Rattle.pmd_access.specs.Named.{AtPort}
use Rattle.pmd_access.specs.Slots.{blocks_for, ring_blocks}
use Rattle.pmd_access.specs.declared.fault.PmdFault.{PmdFault}
use Rattle.pmd_rx.specs.Keeping.{blocks_out, IsRunning, Keeps}
use Rattle.pmd_rx.specs.Receive.{Receive, no_packet}
use Rattle.pmd_rx.specs.declared.ring.Stage.TheVariants.{Looks}
use Rattle.pmd_tx.specs.Sending.{Sender}
use Rattle.pmd_driver.specs.Blocks.{HasAll, IsWhole}
use Rattle.pmd_driver.specs.Driver.{Driver, handed_of, halted_of}
use Rattle.pmd_driver.specs.Runs.{AreRuns}
use Rattle.pmd_driver.specs.Started.{HasStarted, StopsStarting, is_size, left_handed, start_gate}
use Rattle.pmd_driver.specs.Starting.{ComesLate, LendsEach, LendingFails, StopsLending, IsPrepared, PreparingFails}
use Rattle.pmd_driver.specs.Starting.{IsReceiveReady, ReceiveFails, IsTransmitReady, GoesOn, GoingOnFails}
use Rattle.pmd_driver.specs.declared.rings.Unprepared.{Unprepared}
use Rattle.pmd_driver.specs.declared.start.StartRefused.{StartRefused}

-- The requirements of the steps.

-- All blocks that a ring of 8 to 1,024 descriptors takes, starting at block `ring`, are free.
pub record HasPlace (a : Numbers) (ring size : ℕ) : Type 0 where
  pub some : 8 ≤ size
  pub few : size ≤ 1024
  pub low : ring + blocks_for size ≤ 65536
  pub free : IsFreeRun a ring (blocks_for size)

-- The blocks of both rings are free, and enough further blocks are free to fill the receive ring.
pub record HasPlaces (a : Numbers) (size frame receive transmit : ℕ) : Type 0 where
  pub sized : is_size size ≡ true
  pub framed : is_frame frame ≡ true
  pub some : 8 ≤ size
  pub few : size ≤ 1024
  pub runs : AreRuns a (blocks_for size) receive transmit
  pub enough : size - 1 + 2 * blocks_for size ≤ free_count a

-- The receive ring is empty. The arena owns its blocks, and none of them is free there. At least one block is free for
-- each slot in the ring except one.
pub record IsEmpty (a : Numbers) (v : Receive) : Type 0 where
  pub empty : v.layout.blocks ≡ []
  pub stage : v.stage ≡ Looks
  pub unseen : (v.seen ≡ []) × (v.held ≡ no_packet)
  pub idle : (v.whole ≡ []) × (v.named ≡ [])
  pub home : AreOut a (blocks_out v)
  pub enough : v.layout.size ≤ free_count a + 1

-- The results of the steps, whether successful or not.

-- The block was lent, or it is still free.
abbrev pub LendsOne : Result (Unit {0}) PmdFault → ℕ → List Call → Numbers → List Call → Numbers → Type 0
LendsOne (Ok done) n old a new b = IsLent old new (zero_block n) None × (b ≡ with_free a n false)
LendsOne (Err f) n old a new b = LendingFails f old new (zero_block n) × (b ≡ a)

-- All blocks were lent in order, or only the first of them, `out`, were lent.
abbrev pub LendsRun : Result (Unit {0}) PmdFault → List ℕ → List Call → Numbers → List Call → Numbers → List ℕ → Type 0
LendsRun (Ok done) all old a new b out = LendsEach old new all × IsDrawn a all b
LendsRun (Err f) all old a new b out = StopsLending f all old a new b out

abbrev pub Prepares : Result (Unit {0}) Unprepared → AtPort → Dir → ℕ → ℕ → List Call → Numbers → List Call → Numbers
    → Type 0
Prepares (Ok done) q side ring size old a new b = IsPrepared q side size old a new b ring
Prepares (Err e) q side ring size old a new b = PreparingFails e.fault q side size old a new b e.lent.items

abbrev pub PreparesReceive : Result Receive Unprepared → AtPort → ℕ → ℕ → ℕ → List Call → Numbers → List Call → Numbers
    → Type 0
PreparesReceive (Ok v) q ring size frame old a new b =
    IsReceiveReady q size frame old a new b v × IsDrawn a (ring_blocks ring size) b
PreparesReceive (Err e) q ring size frame old a new b = ReceiveFails e.fault q size old a new b e.lent.items

abbrev pub PreparesTransmit : Result Sender Unprepared → AtPort → ℕ → ℕ → List Call → Numbers → List Call → Numbers
    → Type 0
PreparesTransmit (Ok v) q size frame old a new b = IsTransmitReady q size frame old a new b v
PreparesTransmit (Err e) q size frame old a new b = PreparingFails e.fault q Tx size old a new b e.lent.items

-- Both sides were enabled and the receive ring was filled, or one of these actions failed.
pub record GoesUp (result : Result (Unit {0}) PmdFault) (q : AtPort) (old : List Call) (a : Numbers) (v : Receive)
    (new : List Call) (b : Numbers) (w : Receive) : Type 0 where
  pub on : OnOk result (GoesOn q old a v new b w)
  pub running : OnOk result (IsRunning w)
  pub failed : IfErr result (λ f. GoingOnFails f q old a v new b w)
  pub late : IfErr result (λ f. ComesLate f)
  pub handed : w.handed ≡ v.handed
  pub keeps : Keeps a v b w []

-- The start isn't refused before any event. Its queue is `named`, and its rings start at blocks `receive` and
-- `transmit`.
pub record IsOpen (a : Numbers) (q named : AtPort) (size frame receive transmit : ℕ) : Type 0 where
  pub open_way : start_gate a q size frame ≡ None
  pub queue : named ≡ q
  pub places : HasPlaces a size frame receive transmit

-- The driver is running and has all blocks of the arena that it was given.
pub record StartsUp (q : AtPort) (size frame : ℕ) (old : List Call) (a : Numbers) (new : List Call) (p : Driver)
    : Type 0 where
  pub started : HasStarted q size frame old a new p
  pub none : handed_of p.rings ≡ []
  pub all : HasAll a (halted_of p.rings) []

-- The start was refused during its events. The returned driver or arena has all the blocks.
pub record StopsShort (q : AtPort) (size frame : ℕ) (old : List Call) (a : Numbers) (new : List Call)
    (e : StartRefused) : Type 0 where
  pub stops : StopsStarting q size frame old a new e
  pub late : ComesLate e.fault
  pub none : left_handed e.rest ≡ []
  pub whole : IsWhole a e.rest
