-- The two sides of a queue at rest: each is disabled, or enabled with an empty ring.
pub use Rattle.ring_laws.specs.Left.{IsLeft}
use Rattle.std.specs.Prelude.{[], ◌≡◌, IsTrue, Some, ℕ}
use Rattle.ring_laws.specs.Left.{IsLeft}
use Rattle.driver_laws.specs.StartPrelude.{Block, Blocks, Dir, Event, Memory, Side, State, Watched, after, partial_on}
use Rattle.driver_laws.specs.StartPrelude.{frame_limit, is_empty, mode_in, pieces, sent_by, side_of, zero_block}
use Rattle.std.specs.FinMap as map

-- The side `x` equals `side`, except that one may be on and the other off; nothing is staged in `x`. If `side` is on,
-- so is `x`; and `x` is on only if an enable request is in effect for `side`. If such a request is in effect, the ring
-- of `side` is empty, so the device does nothing on it.
pub record Stands (x side : Side) : Type 0 where
  pub same : x ≡ record side { on = x.on; staged = [] }
  pub seen : IsTrue side.on → IsTrue x.on
  pub wanted : IsTrue x.on → IsTrue side.wanted
  pub empty : IsTrue side.wanted → IsTrue (is_empty side.ring)

-- A block is lent, and each of its bytes is 0.
abbrev pub IsZero : Memory → ℕ → Type 0
IsZero m number = map.get m number ≡ Some (zero_block number).bytes

-- Both sides are at rest, no part of a frame that waits for the queue is written yet, and the blocks `rings` are lent
-- and zero-filled.
pub record Stand (queue : ℕ) (sides : Dir → Side) (rings : Blocks) (s : State) : Type 0 where
  pub side : (dir : Dir) → Stands (side_of dir queue s) (sides dir)
  pub begun : partial_on queue s.waiting ≡ 0
  pub zero : (number : ℕ) → IsTrue (rings number) → IsZero s.memory number

-- An event that leaves the queue and the blocks `rings` alone keeps both sides at rest, and receives and sends nothing
-- on the queue. The frame limit, and how the queues are separated among virtual functions, stay unchanged.
pub record LeavesStanding (queue : ℕ) (sides : Dir → Side) (rings : Blocks) (s : State) (e : Event Block) : Type 0 where
  pub stand : Stand queue sides rings (after s e)
  pub received : pieces queue s e ≡ []
  pub sent : sent_by queue s e ≡ []
  pub limit : frame_limit (after s e).registers ≡ frame_limit s.registers
  pub mode : mode_in (after s e).registers ≡ mode_in s.registers
  pub vfs : (after s e).vfs ≡ s.vfs

abbrev pub StandingSidesAreLeft : Type 0
StandingSidesAreLeft =
    (w : Watched) (mine rings : Blocks) (s : State) (e : Event Block) (sides : Dir → Side) → IsLeft w mine s e →
    ((number : ℕ) → IsTrue (rings number) → IsTrue (mine number)) → Stand w.queue sides rings s →
    LeavesStanding w.queue sides rings s e
