-- What it means for an event to spare a driver that sends: the event leaves unchanged what the driver relies on.
use Rattle.std.specs.Prelude.{◌<◌, ◌≡◌, Bool, IsFalse, IsTrue, ℕ, ⊤}
use Rattle.ring_laws.specs.Prelude.{Avoids, Block, Blocks, Event, IsEvent, IsSound, LeavesBlock, LeavesBlocks}
use Rattle.ring_laws.specs.Prelude.{LeavesRegisters, LeavesTransmit, Reply, State, Tx, Watched, WritesNoSetting}
use Rattle.ring_laws.specs.Prelude.{WritesOutside, Wrote, after, mode_in, reply_to}
use Rattle.ring_laws.specs.TransmitPrelude.{Sender, has_lent}
use Rattle.ring_laws.specs.Left.{is_step_of}
use Rattle.pmd_access.specs.NicDevice.declared.event.Event.TheVariants as event
use Rattle.ring_laws.specs.Left as left

-- Whether an event is a transmit step of this queue, and whether it is a step that enables or disables the queue's
-- transmit side.
abbrev pub is_transmit_of : ℕ → Event Block → Bool
is_transmit_of queue e = is_step_of Tx queue e

abbrev pub is_switch_of : ℕ → Event Block → Bool
is_switch_of queue e = left.is_switch_of Tx queue e

-- A driver can cause the event, and the event writes no setting. Either the event is a transmit step of the driver's
-- queue, or it leaves unchanged each block that the driver has lent. In the second case it also leaves the transmit
-- side unchanged, unless it is a step that enables or disables that side.
pub record Spares (queue : ℕ) (v : Sender) (s : State) (e : Event Block) : Type 0 where
  pub made : IsEvent e
  pub setting : WritesNoSetting s e
  pub side : IsFalse (is_transmit_of queue e) → IsFalse (is_switch_of queue e) → LeavesTransmit queue s (after s e)
  pub blocks :
      IsFalse (is_transmit_of queue e) → (number : ℕ) → IsTrue (has_lent v number) → LeavesBlock number s (after s e)

-- What the driver's receive half must ensure for a step. The written piece isn't empty. If the piece is on the driver's
-- own queue, the piece and its descriptor are outside the blocks that the sender has lent.
abbrev pub ReceiveOwes : ℕ → Sender → Reply Block → Type 0
ReceiveOwes queue v (Wrote on slot end desc at len) =
    (0 < len) × (on ≡ queue → (number : ℕ) → IsTrue (has_lent v number) → Avoids number desc 16 × Avoids number at len)
ReceiveOwes queue v other = ⊤

abbrev pub Owes : ℕ → Sender → State → Event Block → Type 0
Owes queue v s event.RxStep = ReceiveOwes queue v (reply_to s event.RxStep)
Owes queue v s other = ⊤

-- An event leaves alone a queue of a sound device and these blocks, among which are all blocks that the sender has
-- lent. The receive half's obligations for the step are met.
pub record IsLeft (w : Watched) (mine : Blocks) (v : Sender) (s : State) (e : Event Block) : Type 0 where
  pub sound : IsSound s
  pub made : IsEvent e
  pub functions : w.vfs ≡ s.vfs
  pub lent : (number : ℕ) → IsTrue (has_lent v number) → IsTrue (mine number)
  pub registers : LeavesRegisters w (mode_in s.registers) e
  pub blocks : LeavesBlocks mine e
  pub steps : WritesOutside w.queue mine (reply_to s e)
  pub owed : Owes w.queue v s e
