-- How a sending driver's state follows from the calls made. For each call, a list gives the move that the call
-- performs.
use Rattle.std.specs.Prelude.{ℕ, ◌≡◌, ◌<◌, ⊤, Bool, true, false, List, [], ◌∷◌, ◌++◌}
use Rattle.pmd_access.specs.NicDevice.DmaArena.Block.{Block}
use Rattle.pmd_access.specs.NicDevice.declared.event.Event.{Event}
use Rattle.pmd_access.specs.NicDevice.declared.event.Event.TheVariants as event
use Rattle.pmd_access.specs.NicDevice.declared.event.Reply.{Reply}
use Rattle.pmd_access.specs.NicDevice.declared.event.Reply.TheVariants as reply
use Rattle.pmd_access.specs.DeviceLock.declared.entry.Call.{Call}
use Rattle.pmd_access.specs.Made.{Adds, StepsWhere}
use Rattle.pmd_access.specs.declared.fault.PmdFault.{PmdFault}
use Rattle.pmd_access.specs.declared.fault.PmdFault.TheVariants as fault
use Rattle.pmd_tx.specs.Sending.{Sender, Move, Accepts, Elsewhere, IsOwn, moved, is_healthy, is_sent, descriptor_at, first_end}

-- The driver after these moves, given the replies to these calls. This is all that the driver's code knows about its
-- ring.
abbrev pub played_by : Sender → List Move → List Call → Sender
played_by v [] calls = v
played_by v (m ∷ moves) [] = v
played_by v (m ∷ moves) (n ∷ calls) = played_by (moved v m n.reply) moves calls

-- The event of each of these calls is one that the driver may cause as the call's move, in the driver's state at that
-- call.
abbrev pub AllOwn : Sender → List Move → List Call → Type 0
AllOwn v [] [] = ⊤
AllOwn v [] (n ∷ calls) = ⊥
AllOwn v (m ∷ moves) [] = ⊥
AllOwn v (m ∷ moves) (n ∷ calls) = IsOwn v m n.event × AllOwn (moved v m n.reply) moves calls

abbrev pub is_elsewhere : Move → Bool
is_elsewhere Elsewhere = true
is_elsewhere m = false

-- Each call that isn't the driver's own is a device step.
abbrev pub OthersStep : List Move → List Call → Type 0
OthersStep moves calls = StepsWhere is_elsewhere moves calls

-- The calls made take the driver from state `v` to state `w` through these moves. The calls that aren't the driver's
-- own are device steps.
abbrev pub Plays : List Call → Sender → List Call → Sender → Type 0
Plays old v new w =
    (moves : List Move) × (since : List Call) × (new ≡ old ++ since) × AllOwn v moves since
    × (w ≡ played_by v moves since) × OthersStep moves since

-- If the move accepts a packet, the packet is in the blocks with these numbers.
abbrev pub AcceptsIn : List ℕ → Move → Type 0
AcceptsIn blocks (Accepts p) = p.blocks ≡ blocks
AcceptsIn blocks m = ⊤

-- Each packet that one of these moves accepts is in the blocks with these numbers.
abbrev pub AllAcceptIn : List ℕ → List Move → Type 0
AllAcceptIn blocks [] = ⊤
AllAcceptIn blocks (m ∷ moves) = AcceptsIn blocks m × AllAcceptIn blocks moves

-- The calls made are device steps and the driver's moves, which lead the driver from its old state to its new one. Each
-- packet that these moves accept is in the blocks with these numbers.
pub record PlaysWith (blocks : List ℕ) (old : List Call) (v : Sender) (new : List Call) (w : Sender) : Type 0 where
  pub plays : Plays old v new w
  pub accepts : AllAcceptIn blocks plays.0

-- The last call read the descriptor that ends the oldest outstanding packet, and found the packet not done. No packet
-- was accepted before that call.
pub record LooksLast (old : List Call) (v : Sender) (new : List Call) (w : Sender) : Type 0 where
  pub mid : List Call
  pub before : Sender
  pub bytes : List ℕ
  pub plays : Plays old v mid before
  pub looks :
      Adds mid new (event.Peek16 (descriptor_at before.layout (first_end before.outstanding))) (reply.Bytes bytes)
  pub waits : is_sent bytes ≡ false
  pub posted : first_end before.outstanding < before.posted
  pub accepted : before.accepted ≡ v.accepted
  pub left : w ≡ record before { done = 0 }

-- The last call was a move of the driver, and the reply to it isn't one that a healthy queue sends. Each packet that
-- was accepted before this call, or that the call was to accept, is in the blocks with these numbers.
pub record Faults (blocks : List ℕ) (old : List Call) (v : Sender) (new : List Call) : Type 0 where
  pub mid : List Call
  pub before : Sender
  pub move : Move
  pub event : Event Block
  pub reply : Reply Block
  pub plays : PlaysWith blocks old v mid before
  pub own : IsOwn before move event
  pub accepts : AcceptsIn blocks move
  pub adds : Adds mid new event reply
  pub sick : is_healthy move reply ≡ false

-- After these calls, the refused event is a move that the driver may make next. Each packet that was accepted before
-- this move, or that the move was to accept, is in the blocks with these numbers.
pub record AsksNext (blocks : List ℕ) (old : List Call) (v : Sender) (new : List Call) : Type 0 where
  pub before : Sender
  pub move : Move
  pub event : Event Block
  pub plays : PlaysWith blocks old v new before
  pub own : IsOwn before move event
  pub mine : is_elsewhere move ≡ false
  pub accepts : AcceptsIn blocks move

-- After `DeviceFault`, the last call was a move of the driver, and the reply to it isn't one that a healthy queue
-- sends. After a refused call, that call's event is a move that the driver may make next. Each packet accepted, or to
-- be accepted, is in the blocks with these numbers.
abbrev pub FaultsBy : PmdFault → List ℕ → List Call → Sender → List Call → Type 0
FaultsBy fault.DeviceFault blocks old v new = Faults blocks old v new
FaultsBy (fault.Call refusal) blocks old v new = AsksNext blocks old v new
FaultsBy other blocks old v new = ⊤
