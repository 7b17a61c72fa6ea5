-- The Bufs of a packet.
use Rattle.std.specs.Prelude.{ℕ, zero, suc, ◌≡◌, List, [], ◌∷◌, ◌++◌, map, Option, Some, None, true}
use Rattle.device_lock.specs.NicDevice.DmaArena.Block.{Block}
use Rattle.device_lock.specs.NicDevice.DmaArena.Numbers.{Numbers, with_free}

-- The bytes of the blocks, concatenated in order.
abbrev pub bytes_of : List Block → List ℕ
bytes_of [] = []
bytes_of (b ∷ bs) = b.bytes ++ bytes_of bs

-- The numbers of the blocks.
abbrev pub numbers_of : List Block → List ℕ
numbers_of bs = map (λ (b : Block). b.number) bs

-- The arena after these numbers become free.
abbrev pub with_all_free : Numbers → List ℕ → Numbers
with_all_free a [] = a
with_all_free a (n ∷ ns) = with_all_free (with_free a n true) ns

-- The blocks in these places, in order.
abbrev pub blocks_in : List (Option Block) → List Block
blocks_in [] = []
blocks_in (None ∷ places) = blocks_in places
blocks_in (Some b ∷ places) = b ∷ blocks_in places

-- The first `count` places each contain a block; the later places are empty.
abbrev pub StandFirst : ℕ → List (Option Block) → Type 0
StandFirst zero places = blocks_in places ≡ []
StandFirst (suc count) [] = ⊥
StandFirst (suc count) (None ∷ places) = ⊥
StandFirst (suc count) (Some b ∷ places) = StandFirst count places
