use Rattle.std.specs.Prelude.{ℕ, ◌+◌, ◌<◌, ◌≤◌, ◌≡◌, Bool, true, false, List, [], ◌∷◌, Option, Some, None, length, slice_index_or, is_some, count_by, IfSome}
use Rattle.std.specs.FinMap as fin
use Rattle.dma_arena.specs.Block.{Block}
use Rattle.dma_arena.specs.Memory.{Memory}

-- The memory that these slots represent, if the first slot is the one for this block number.
unfoldable pub shown_from : ℕ → List (Option Block) → Memory
shown_from number [] = fin.empty
shown_from number (None ∷ places) = shown_from (number + 1) places
shown_from number (Some block ∷ places) = fin.insert (shown_from (number + 1) places) number block.bytes

-- The memory that a table's slots represent.
abbrev pub shown : List (Option Block) → Memory
shown places = shown_from 0 places

-- The content of a slot: a block, or `None`.
abbrev pub at_place : List (Option Block) → ℕ → Option Block
at_place places number = slice_index_or places number None

-- Whether a slot contains a block.
abbrev pub is_filled : List (Option Block) → ℕ → Bool
is_filled places number = is_some (at_place places number)

-- No slot below this one contains a block.
abbrev pub NoneBelow : List (Option Block) → ℕ → Type 0
NoneBelow places first = (number : ℕ) → number < first → is_filled places number ≡ false

-- The first slot that contains a block; 65,536 if all slots are empty.
pub record IsFirst (places : List (Option Block)) (first : ℕ) : Type 0 where
  pub below : NoneBelow places first
  pub here : first < 65536 → is_filled places first ≡ true
  pub small : first ≤ 65536

-- No slot between these two contains a block.
abbrev pub NoneBetween : List (Option Block) → (first next : ℕ) → Type 0
NoneBetween places first next = (number : ℕ) → first < number → number < next → is_filled places number ≡ false

-- The slots of a table. Each block is in the slot with its number, and `count` is the number of blocks. The slot
-- `first` is the first that contains a block, and the slots between `first` and `next` are empty.
pub record IsTable (places : List (Option Block)) (first next count : ℕ) : Type 0 where
  pub numbered : (number : ℕ) → IfSome (at_place places number) (λ block. block.number ≡ number)
  pub few : length places ≤ 65536
  pub lowest : IsFirst places first
  pub gap : NoneBetween places first next
  pub counted : count ≡ count_by (λ place. is_some place) places
