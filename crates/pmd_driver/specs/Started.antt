-- The result of a start, and why it is refused.
use Rattle.std.specs.Prelude.{true, ℕ, ◌≡◌, ◌⊎◌, ◌&&◌, ◌==◌, ◌+◌, ◌-◌, ◌*◌, ◌%◌, nat_le, nat_lt, is_some, Bool, List, [], ◌∷◌, Option, Some, None, Result, Ok, Err, ⊤, if◌then◌else◌}
use Rattle.pmd_access.specs.NicDevice.DmaArena.Numbers.{Numbers, free_count}
use Rattle.pmd_access.specs.DeviceLock.declared.entry.Call.{Call}
use Rattle.pmd_access.specs.NicDevice.DmaRing.declared.dir.Dir.TheVariants.{Tx}
use Rattle.pmd_access.specs.Packet.{Kept}
use Rattle.pmd_access.specs.declared.fault.PmdFault.{PmdFault}
use Rattle.pmd_access.specs.declared.fault.PmdFault.TheVariants.{BadSize, NoBuffer, DeviceFault}
use Rattle.pmd_access.specs.Frames.{is_frame}
use Rattle.pmd_access.specs.Named.{AtPort, queues_named}
use Rattle.pmd_access.specs.Slots.{blocks_for}
use Rattle.pmd_rx.specs.Receive.{Receive}
use Rattle.pmd_tx.specs.Sending.{Sender}
use Rattle.pmd_driver.specs.Halted.{Halted, with_rings, with_receive_ring, with_blocks}
use Rattle.pmd_driver.specs.Driver.{Driver, accepted_of, handed_of}
use Rattle.pmd_driver.specs.Running.{Running}
use Rattle.pmd_driver.specs.Runs.{second_run}
use Rattle.pmd_driver.specs.Starting.{IsReceiveReady, IsTransmitReady, GoesOn, ReceiveFails, PreparingFails}
use Rattle.pmd_driver.specs.Starting.{GoingOnFails}
use Rattle.pmd_driver.specs.declared.driver.Rings.TheVariants.{Up, Down}
use Rattle.pmd_driver.specs.declared.start.Rest.{Rest}
use Rattle.pmd_driver.specs.declared.start.Rest.TheVariants as rest
use Rattle.pmd_driver.specs.declared.start.StartRefused.{StartRefused}

-- Whether a ring may have this many descriptors: a multiple of 8 from 8 to 1,024.
abbrev pub is_size : ℕ → Bool
is_size size = nat_le 8 size && (nat_le size 1024 && size % 8 == 0)

-- Whether enough blocks are free: the blocks of the two rings, and one block for each slot in the receive ring except
-- one. Two runs of consecutive free blocks are needed for the rings.
abbrev pub has_room : Numbers → ℕ → Bool
has_room a size =
    nat_le (size - 1 + 2 * blocks_for size) (free_count a) && is_some (second_run a (blocks_for size))

-- The fault for which a start is refused before any event, if any.
abbrev pub start_gate : Numbers → AtPort → ℕ → ℕ → Option PmdFault
start_gate a q size frame =
    if is_size size && is_frame frame
    then (if has_room a size
    then (if nat_lt q.queue (queues_named q.port) then None else Some DeviceFault)
    else Some NoBuffer)
    else Some BadSize

-- No block is lent: the arena is unchanged, and the lists of records are empty.
abbrev pub IsHome : Numbers → Rest → Type 0
IsHome a (rest.Home h) = (h.arena ≡ a) × (h.lost ≡ 0) × (h.handed.items ≡ []) × (h.accepted.items ≡ [])
IsHome a (rest.Running p) = ⊥

-- The packets that the driver handed out, whether it stopped or not.
abbrev pub left_handed : Rest → List Kept
left_handed (rest.Home h) = h.handed.items
left_handed (rest.Running p) = handed_of p.rings

-- The packets that the driver accepted, whether it stopped or not.
abbrev pub left_accepted : Rest → List Kept
left_accepted (rest.Home h) = h.accepted.items
left_accepted (rest.Running p) = accepted_of p.rings

-- The start was refused before any event, for this fault.
abbrev pub IsShut : Option PmdFault → Numbers → List Call → List Call → Result Driver StartRefused → Type 0
IsShut None a old new r = ⊤
IsShut (Some f) a old new (Ok p) = ⊥
IsShut (Some f) a old new (Err e) = (e.fault ≡ f) × IsHome a e.rest × (new ≡ old)

-- The rings were brought up one after the other: both rings are lent, both sides are on, and the receive ring is
-- filled.
pub record AreUp (q : AtPort) (size frame : ℕ) (old : List Call) (a : Numbers) (new : List Call) (r : Running) :
    Type 0 where
  pub sized : is_size size ≡ true
  pub framed : is_frame frame ≡ true
  pub ready_made : List Call
  pub both_made : List Call
  pub ready_arena : Numbers
  pub both_arena : Numbers
  pub empty : Receive
  pub receive : IsReceiveReady q size frame old a ready_made ready_arena empty
  pub transmit : IsTransmitReady q size frame ready_made ready_arena both_made both_arena r.transmit
  pub on : GoesOn q both_made both_arena empty new r.arena r.receive

-- The driver is running, and nothing was handed out or accepted.
abbrev pub HasStarted : AtPort → ℕ → ℕ → List Call → Numbers → List Call → Driver → Type 0
HasStarted q size frame old a new p =
    (r : Running) × (p ≡ record { queue = q; rings = Up r }) × AreUp q size frame old a new r

-- The start returned a driver that isn't running, with the blocks that it lent.
abbrev pub IsHalfStarted : AtPort → Halted → Rest → Type 0
IsHalfStarted q h left = left ≡ rest.Running (record { queue = q; rings = Down h })

-- No ring was prepared. If a block of the receive ring was lent, a driver is returned; otherwise the arena is returned.
abbrev pub IsLeftWith : AtPort → Numbers → List ℕ → Rest → Type 0
IsLeftWith q a [] left = IsHome a left
IsLeftWith q a (n ∷ ns) left = IsHalfStarted q (with_blocks a (n ∷ ns)) left

-- The receive ring wasn't prepared.
pub record StopsBeforeOne (q : AtPort) (size : ℕ) (old : List Call) (a : Numbers) (new : List Call) (e : StartRefused) :
    Type 0 where
  pub arena : Numbers
  pub out : List ℕ
  pub fails : ReceiveFails e.fault q size old a new arena out
  pub left : IsLeftWith q arena out e.rest

-- The transmit ring wasn't prepared. The returned driver has the empty receive ring, and the transmit ring's blocks
-- that were lent.
pub record StopsAfterOne (q : AtPort) (size frame : ℕ) (old : List Call) (a : Numbers) (new : List Call)
    (e : StartRefused) : Type 0 where
  pub made : List Call
  pub ready_arena : Numbers
  pub arena : Numbers
  pub empty : Receive
  pub out : List ℕ
  pub receive : IsReceiveReady q size frame old a made ready_arena empty
  pub fails : PreparingFails e.fault q Tx size made ready_arena new arena out
  pub left : IsHalfStarted q (with_receive_ring arena empty out) e.rest

-- A side wasn't enabled, or the receive ring was only partly filled. The returned driver has both rings.
pub record StopsAfterBoth (q : AtPort) (size frame : ℕ) (old : List Call) (a : Numbers) (new : List Call)
    (e : StartRefused) : Type 0 where
  pub sized : is_size size ≡ true
  pub framed : is_frame frame ≡ true
  pub ready_made : List Call
  pub both_made : List Call
  pub ready_arena : Numbers
  pub both_arena : Numbers
  pub arena : Numbers
  pub empty : Receive
  pub filled : Receive
  pub sender : Sender
  pub receive : IsReceiveReady q size frame old a ready_made ready_arena empty
  pub transmit : IsTransmitReady q size frame ready_made ready_arena both_made both_arena sender
  pub fails : GoingOnFails e.fault q both_made both_arena empty new arena filled
  pub left : IsHalfStarted q (with_rings arena filled sender) e.rest

-- The start was refused during its events.
abbrev pub StopsStarting : AtPort → ℕ → ℕ → List Call → Numbers → List Call → StartRefused → Type 0
StopsStarting q size frame old a new e =
    StopsBeforeOne q size old a new e ⊎ StopsAfterOne q size frame old a new e ⊎ StopsAfterBoth q size frame old a new e
