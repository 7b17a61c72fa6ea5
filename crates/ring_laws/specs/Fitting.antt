-- Frames of several pieces: each frame fits as many slots as the driver takes for a packet.
use Rattle.std.specs.Prelude.{[], if◌then◌else◌, ◌*◌, ◌++◌, ◌==◌, ◌∷◌, ◌≡◌, ◌≤◌, All, IsFalse, IsTrue, List, length, ℕ}
use Rattle.std.specs.Prelude.{⊤}
use Rattle.ring_laws.specs.Prelude.{Block, Event, IsSound, Place, Register, Rx, State, Waiting, WritesNoSetting}
use Rattle.ring_laws.specs.Prelude.{after, asks_pool_reset, frame_limit, has_queue, is_on, mode_in, named, row_of}
use Rattle.ring_laws.specs.ReceivePrelude.{Receive}
use Rattle.ring_laws.specs.Pieces.{AllFit, Piece, open_after, pieces}
use Rattle.ring_laws.specs.{Joint.Agree, ReceiveUp.IsUp}
use Rattle.pmd_access.specs.NicDevice.declared.event.Event.TheVariants as event

-- If this waiting frame is for the queue, it fits into `most` blocks.
abbrev pub FitsBlocks : ℕ → ℕ → Waiting → Type 0
FitsBlocks queue most w = w.queue ≡ queue → length w.frame ≤ 2048 * most

-- How many bytes of the oldest waiting frame were written, if the frame is for this queue; otherwise 0.
abbrev pub partial_on : ℕ → List Waiting → ℕ
partial_on queue [] = 0
partial_on queue (w ∷ others) = if w.queue == queue then w.offset else 0

-- Each frame that waits for the queue fits into `most` blocks, and longer frames aren't accepted. The packets of the
-- written pieces fit too. If the newest packet hasn't ended, the bytes written of it so far fill its pieces completely.
pub record AreFitting (queue most : ℕ) (s : State) (out : List Piece) : Type 0 where
  pub limit : frame_limit s.registers ≤ 2048 * most
  pub waiting : All (FitsBlocks queue most) s.waiting
  pub begun : partial_on queue s.waiting ≡ 2048 * open_after 0 out
  pub pieces : AllFit most 0 out

-- An event requests no reset of the queue's pool.
abbrev pub ResetsNoPool : ℕ → State → Event Block → Type 0
ResetsNoPool queue s (event.Write port number word) =
    (p : Place) (view : ℕ) → named s port number ≡ Register p view → IsTrue (asks_pool_reset (row_of p.row).kind word)
    → IsFalse (has_queue (mode_in s.registers) p.index queue)
ResetsNoPool queue s other = ⊤

-- If the device and the driver agree and the side is up, `AreFitting` stays true through every event that writes no
-- setting and doesn't reset the queue's pool.
abbrev pub FramesStayFitting : Type 0
FramesStayFitting =
    (queue most : ℕ) (s : State) (out : List Piece) (v : Receive) (e : Event Block) → IsSound s →
    Agree queue s out v → IsUp queue s → AreFitting queue most s out → WritesNoSetting s e → ResetsNoPool queue s e →
    AreFitting queue most (after s e) (out ++ pieces queue s e)

-- While the side is off, no byte of a frame that waits for the queue has been written.
abbrev pub NoneBegunWhileOff : Type 0
NoneBegunWhileOff =
    (queue : ℕ) (s : State) → IsSound s → IsFalse (is_on s.registers Rx queue) → partial_on queue s.waiting ≡ 0
