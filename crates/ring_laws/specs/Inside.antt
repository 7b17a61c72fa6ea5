-- Where a receive step on the driver's own queue writes.
use Rattle.std.specs.Prelude.{◌+◌, ◌<◌, ◌≡◌, Bool, List, length, ℕ}
use Rattle.ring_laws.specs.Prelude.{IsSound, LiesIn, State, Wrote, reply_to}
use Rattle.ring_laws.specs.ReceivePrelude.{Layout, Receive, block_at, blocks_for}
use Rattle.ring_laws.specs.{Joint.Agree, Pieces.Piece}
use Rattle.pmd_access.specs.NicDevice.declared.event.Event.TheVariants as event

-- The descriptor at `desc` is in one of the blocks of a ring with `size` slots that starts at block `ring`.
pub record IsInRing (ring size desc : ℕ) : Type 0 where
  pub part : ℕ
  pub known : part < blocks_for size
  pub descriptor : LiesIn (ring + part) desc 16

-- The descriptor at `desc` is in one of the ring's blocks, and the `len` bytes at `at` are in the block of one of the
-- ring's slots.
pub record IsInside (l : Layout) (desc at len : ℕ) : Type 0 where
  pub descriptor : IsInRing l.ring l.size desc
  pub slot : ℕ
  pub known : slot < length l.blocks
  pub bytes : LiesIn (block_at l slot) at len

abbrev pub PieceIsInside : Type 0
PieceIsInside =
    (queue : ℕ) (s : State) (out : List Piece) (v : Receive) → IsSound s → Agree queue s out v →
    (slot : ℕ) (end : Bool) (desc at len : ℕ) → reply_to s event.RxStep ≡ Wrote queue slot end desc at len →
    IsInside v.layout desc at len
