-- Which blocks are lent to a device, and which driver they belong to.
use Rattle.std.specs.Prelude.{◌&&◌, ◌==◌, ◌||◌, ◌≡◌, IsFalse, IsTrue, not, ℕ, ⊤}
use Rattle.ring_laws.specs.Prelude.{Block, Blocks, Done, Event, Memory, Reply, State, after, has_block, reply_to}
use Rattle.device_lock.specs.NicDevice.declared.event.Reply.TheVariants.{Buf}
use Rattle.device_lock.specs.NicDevice.declared.event.Event.TheVariants as event

-- Whenever a block with one of these numbers, for example an arena's, is lent, the driver knows that it is lent.
abbrev pub OnlyLent : Blocks → Blocks → Memory → Type 0
OnlyLent own known m = (number : ℕ) → IsTrue (own number) → IsTrue (has_block m number) → IsTrue (known number)

-- An event lends no block with one of these numbers.
abbrev pub LendsNone : Blocks → Event Block → Type 0
LendsNone own (event.Lend block) = IsFalse (own block.number)
LendsNone own other = ⊤

-- If an event lends a block, the block isn't lent yet.
abbrev pub LendsAgain : State → Event Block → Type 0
LendsAgain s (event.Lend block) = IsFalse (has_block s.memory block.number)
LendsAgain s other = ⊤

-- The blocks that either of two parties has lent.
abbrev pub either : Blocks → Blocks → Blocks
either xs ys number = xs number || ys number

-- If an event lends a block, the block has one of these numbers, and others haven't lent it.
abbrev pub LendsOwn : Blocks → Blocks → Event Block → Type 0
LendsOwn own others (event.Lend block) = IsTrue (own block.number) × IsFalse (others block.number)
LendsOwn own others other = ⊤

-- If an event lends a block, the block is one of these.
abbrev pub LendsOneOf : Blocks → Event Block → Reply Block → Type 0
LendsOneOf mine (event.Lend block) Done = IsTrue (mine block.number)
LendsOneOf mine e other = ⊤

-- The lent blocks with a newly lent block. `without`: the lent blocks without a block that was taken back.
abbrev pub with_lent : Blocks → ℕ → Blocks
with_lent known taken number = number == taken || known number

abbrev pub without : Blocks → ℕ → Blocks
without known taken number = not (number == taken) && known number

-- An event that lends none of these blocks keeps the property that each lent block is known. So does lending a block,
-- which is then known, and taking a block back, which is then no longer known. If one of these blocks isn't known, it
-- isn't lent yet.
pub record OnlyLentStays : Type 0 where
  pub others :
      (own known : Blocks) (s : State) (e : Event Block) → LendsNone own e → OnlyLent own known s.memory
      → OnlyLent own known (after s e).memory
  pub lend :
      (own known : Blocks) (s : State) (block : Block) → OnlyLent own known s.memory
      → OnlyLent own (with_lent known block.number) (after s (event.Lend block)).memory
  pub take :
      (own known : Blocks) (s : State) (number : ℕ) (block : Block) → OnlyLent own known s.memory
      → reply_to s (event.Take number) ≡ Buf block
      → OnlyLent own (without known number) (after s (event.Take number)).memory
  pub again :
      (own known : Blocks) (s : State) (block : Block) → OnlyLent own known s.memory → IsTrue (own block.number)
      → IsFalse (known block.number) → LendsAgain s (event.Lend block)

-- Lending a block that isn't lent succeeds.
abbrev pub AgainIsDone : Type 0
AgainIsDone = (s : State) (block : Block) → LendsAgain s (event.Lend block) → reply_to s (event.Lend block) ≡ Done
