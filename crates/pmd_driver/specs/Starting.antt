-- How a driver brings its rings up, one after the other.
use Rattle.std.specs.Prelude.{ℕ, ◌≡◌, ◌⊎◌, ⊤, true, List, [], ◌∷◌, ◌++◌, Some, None}
use Rattle.pmd_access.specs.NicDevice.DmaArena.Block.{Block, zero_block}
use Rattle.pmd_access.specs.NicDevice.DmaArena.Numbers.{Numbers, is_free}
use Rattle.pmd_access.specs.DeviceLock.declared.entry.Call.{Call}
use Rattle.pmd_access.specs.NicDevice.RegisterFile.Queue.{tail_row}
use Rattle.pmd_access.specs.NicDevice.DmaRing.declared.dir.Dir.{Dir}
use Rattle.pmd_access.specs.NicDevice.DmaRing.declared.dir.Dir.TheVariants.{Rx, Tx}
use Rattle.pmd_access.specs.Accesses.{IsLent}
use Rattle.pmd_access.specs.Made.{AddsSome}
use Rattle.pmd_access.specs.declared.fault.PmdFault.{PmdFault}
use Rattle.pmd_access.specs.declared.fault.PmdFault.TheVariants as fault
use Rattle.pmd_access.specs.Both.{both_quiet, IsSwitched, SwitchFails}
use Rattle.pmd_access.specs.QueueMade.{AreMade, StopsBy}
use Rattle.pmd_access.specs.Frames.{most_blocks, packet_limit}
use Rattle.pmd_access.specs.Home.{IsDrawn}
use Rattle.pmd_access.specs.Named.{AtPort, IsNumberOf}
use Rattle.pmd_access.specs.Sides.{ring_words}
use Rattle.pmd_access.specs.Slots.{blocks_for, ring_blocks}
use Rattle.pmd_rx.specs.Filling.{Fills, StopsFilling}
use Rattle.pmd_rx.specs.Plays.{PlaysFrom}
use Rattle.pmd_rx.specs.Receive.{Receive}
use Rattle.pmd_rx.specs.Receive as receive
use Rattle.pmd_tx.specs.Sending.{Sender}
use Rattle.pmd_tx.specs.Sending as transmit
use Rattle.pmd_access.specs.NicDevice.DmaArena.Run.{IsFreeRun}

-- A fault that occurs during events: `StartTimeout`, `DeviceFault` or `Call`.
abbrev pub ComesLate : PmdFault → Type 0
ComesLate fault.StartTimeout = ⊤
ComesLate fault.DeviceFault = ⊤
ComesLate (fault.Call refusal) = ⊤
ComesLate fault.BadSize = ⊥
ComesLate fault.ForeignBlock = ⊥
ComesLate fault.NoBuffer = ⊥

-- These blocks were lent in order, filled with zeros.
abbrev pub LendsEach : List Call → List Call → List ℕ → Type 0
LendsEach old new [] = new ≡ old
LendsEach old new (n ∷ ns) = (mid : List Call) × IsLent old mid (zero_block n) None × LendsEach mid new ns

-- The ring's registers were written. Its blocks, which had been free, were taken from the arena and lent.
pub record IsPrepared (q : AtPort) (side : Dir) (size : ℕ) (old : List Call) (a : Numbers) (new : List Call)
    (b : Numbers) (ring : ℕ) : Type 0 where
  pub drawn : IsDrawn a (ring_blocks ring size) b
  pub mid : List Call
  pub words : AreMade q old mid (ring_words side ring size)
  pub lent : LendsEach mid new (ring_blocks ring size)

-- Why a block isn't lent: a block with its number is already lent (`DeviceFault`), or the call was refused (`Call`).
abbrev pub LendingFails : PmdFault → List Call → List Call → Block → Type 0
LendingFails fault.DeviceFault old new block = (back : Block) × IsLent old new block (Some back)
LendingFails (fault.Call refusal) old new block = AddsSome old new
LendingFails fault.BadSize old new block = ⊥
LendingFails fault.ForeignBlock old new block = ⊥
LendingFails fault.StartTimeout old new block = ⊥
LendingFails fault.NoBuffer old new block = ⊥

-- The first of these blocks, possibly none, were taken from the arena and lent. The next block, which is free, wasn't
-- lent.
pub record StopsLending (f : PmdFault) (all : List ℕ) (old : List Call) (a : Numbers) (new : List Call) (b : Numbers)
    (out : List ℕ) : Type 0 where
  pub next : ℕ
  pub rest : List ℕ
  pub parts : out ++ next ∷ rest ≡ all
  pub drawn : IsDrawn a out b
  pub free : is_free b next ≡ true
  pub mid : List Call
  pub lent : LendsEach old mid out
  pub fails : LendingFails f mid new (zero_block next)

-- A ring in free blocks wasn't prepared: one of its registers wasn't written, or one of its blocks wasn't lent. `out`
-- are the blocks that were taken from the arena and lent before that.
abbrev pub PreparingFails : PmdFault → AtPort → Dir → ℕ → List Call → Numbers → List Call → Numbers → List ℕ → Type 0
PreparingFails f q side size old a new b out =
    (ring : ℕ) × IsFreeRun a ring (blocks_for size)
    × ((StopsBy f q old new (ring_words side ring size) × (b ≡ a) × (out ≡ []))
    ⊎ ((mid : List Call) × AreMade q old mid (ring_words side ring size)
    × StopsLending f (ring_blocks ring size) mid a new b out))

-- The driver read that both sides are off, wrote "off", and read again that they are off. An empty receive ring is
-- lent.
pub record IsReceiveReady (q : AtPort) (size frame : ℕ) (old : List Call) (a : Numbers) (new : List Call) (b : Numbers)
    (v : Receive) : Type 0 where
  pub mid : List Call
  pub quiet : AreMade q old mid both_quiet
  pub ring : ℕ
  pub prepared : IsPrepared q Rx size mid a new b ring
  pub tail : ℕ
  pub named : IsNumberOf q.port (tail_row Rx) q.queue tail
  pub fresh : v ≡ receive.at_start q.port tail ring size (most_blocks frame)

-- A side is on, or the receive ring isn't prepared.
abbrev pub ReceiveFails : PmdFault → AtPort → ℕ → List Call → Numbers → List Call → Numbers → List ℕ → Type 0
ReceiveFails f q size old a new b out =
    (StopsBy f q old new both_quiet × (b ≡ a) × (out ≡ []))
    ⊎ ((mid : List Call) × AreMade q old mid both_quiet × PreparingFails f q Rx size mid a new b out)

-- An empty transmit ring is lent.
pub record IsTransmitReady (q : AtPort) (size frame : ℕ) (old : List Call) (a : Numbers) (new : List Call) (b : Numbers)
    (v : Sender) : Type 0 where
  pub ring : ℕ
  pub prepared : IsPrepared q Tx size old a new b ring
  pub tail : ℕ
  pub named : IsNumberOf q.port (tail_row Tx) q.queue tail
  pub fresh : v ≡ transmit.at_start q.port tail ring size (packet_limit frame)

-- Both sides were enabled, then the receive ring was filled with blocks that were free in the arena.
pub record GoesOn (q : AtPort) (old : List Call) (a : Numbers) (v : Receive) (new : List Call) (b : Numbers)
    (w : Receive) : Type 0 where
  pub mid : List Call
  pub switched : IsSwitched q old mid true 1000
  pub plays : PlaysFrom a mid v new w
  pub filled : Fills a v b w

-- A side wasn't enabled, and the driver is unchanged; or the receive ring was only partly filled.
abbrev pub GoingOnFails : PmdFault → AtPort → List Call → Numbers → Receive → List Call → Numbers → Receive → Type 0
GoingOnFails f q old a v new b w =
    (SwitchFails f q old new true 1000 × (b ≡ a) × (w ≡ v))
    ⊎ ((mid : List Call) × IsSwitched q old mid true 1000 × StopsFilling f mid a v new b w)
