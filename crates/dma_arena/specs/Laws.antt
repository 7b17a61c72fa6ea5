use Rattle.std.specs.Prelude.{◌≡◌, ◌≢◌, ◌↔◌, ℕ, ◌+◌, ◌*◌, ◌/◌, ◌<◌, ◌≤◌, true, false, List, length, slice_index}
use Rattle.std.specs.FinMap as map
use Rattle.dma_arena.specs.Memory.{Memory, has_block, byte_at, is_lent, read_at, write_at, put_bytes, part, IsWhole, SameLent, IsOutside, AreApart, LiesIn, Avoids}
use Rattle.dma_arena.specs.Numbers.{Numbers, free_count, is_own, is_free, are_all_free, all_free, with_free, numbers_below, numbers_from, IsInside, NoneFree}
use Rattle.dma_arena.specs.Run.{run_in, without_run, IsFreeRun, IsNoRun, IsLowestRun}
use Rattle.std.specs.Prelude.{Some, None, Bool, ◌||◌, ◌&&◌}

-- Ranges of bus addresses.

-- A range of bus addresses is lent if and only if each block that it touches is lent.
abbrev pub LentByBlocks : Type 0
LentByBlocks =
    (m : Memory) (a n : ℕ) → (is_lent m a n ≡ true) ↔ ((c : ℕ) → a ≤ c → c < a + n → has_block m (c / 2048) ≡ true)

-- A nonempty lent range doesn't extend past block 65,535, so no address in it wraps.
abbrev pub LentEnds : Type 0
LentEnds = (m : Memory) (a n : ℕ) → IsWhole m → is_lent m a n ≡ true → 0 < n → a + n ≤ 65536 * 2048

-- A read returns the bytes at the addresses in its range, in address order.
abbrev pub ReadsBytes : Type 0
ReadsBytes = (m : Memory) (a n k : ℕ) → k < n → slice_index (read_at m a n) k ≡ byte_at m (a + k)

-- A read of a lent range that was just written returns the bytes that were written.
abbrev pub ReadsBack : Type 0
ReadsBack =
    (m : Memory) (a : ℕ) (bytes : List ℕ) → IsWhole m → is_lent m a (length bytes) ≡ true
    → read_at (write_at m a bytes) a (length bytes) ≡ bytes

-- A write doesn't change what is read from a range that shares no byte with it.
abbrev pub ReadsApart : Type 0
ReadsApart =
    (m : Memory) (a : ℕ) (bytes : List ℕ) (c n : ℕ) → AreApart c n a (length bytes)
    → read_at (write_at m a bytes) c n ≡ read_at m c n

-- A write changes no byte outside its range.
abbrev pub WritesInside : Type 0
WritesInside =
    (m : Memory) (a : ℕ) (bytes : List ℕ) (c : ℕ) → IsOutside c a (length bytes)
    → byte_at (write_at m a bytes) c ≡ byte_at m c

-- A write changes neither which blocks are lent nor their length of 2,048 bytes.
abbrev pub WriteKeepsBlocks : Type 0
WriteKeepsBlocks =
    (m : Memory) (a : ℕ) (bytes : List ℕ) → SameLent (write_at m a bytes) m × (IsWhole m → IsWhole (write_at m a bytes))

-- Lending or taking a block changes no byte of another block.
abbrev pub MovesApart : Type 0
MovesApart =
    (m : Memory) (number : ℕ) (bytes : List ℕ) (c : ℕ) → c / 2048 ≢ number
    → (byte_at (map.insert m number bytes) c ≡ byte_at m c) × (byte_at (map.remove m number) c ≡ byte_at m c)

-- One block.

-- A write changes no block that its range doesn't touch.
abbrev pub WriteAvoids : Type 0
WriteAvoids =
    (m : Memory) (a : ℕ) (bytes : List ℕ) (number : ℕ) → Avoids number a (length bytes)
    → map.get (write_at m a bytes) number ≡ map.get m number

-- A range within one block touches no other block.
abbrev pub InsideAvoids : Type 0
InsideAvoids = (number other a n : ℕ) → LiesIn number a n → other ≢ number → Avoids other a n

-- Whether a range within one block is lent, and what a read of the range returns, depends only on that block.
abbrev pub ReadsItsBlock : Type 0
ReadsItsBlock =
    (m other : Memory) (number a n : ℕ) → map.get m number ≡ map.get other number → LiesIn number a n
    → (read_at m a n ≡ read_at other a n) × (is_lent m a n ≡ is_lent other a n)

-- Within one lent block, every range is lent, a read returns the block's bytes in that range, and a write replaces
-- these bytes and changes nothing else.
pub record InsideBlock (m : Memory) (number at : ℕ) (block : List ℕ) : Type 0 where
  pub lent : (n : ℕ) → at + n ≤ 2048 → is_lent m (2048 * number + at) n ≡ true
  pub read : (n : ℕ) → at + n ≤ 2048 → read_at m (2048 * number + at) n ≡ part block at n
  pub written : (bytes : List ℕ) → at + length bytes ≤ 2048
      → write_at m (2048 * number + at) bytes ≡ map.insert m number (put_bytes block at bytes)

abbrev pub BlockLaw : Type 0
BlockLaw =
    (m : Memory) (number at : ℕ) (block : List ℕ) → IsWhole m → map.get m number ≡ Some block
    → InsideBlock m number at block

-- If bytes that fit are put into a block at an index, the block then contains them there, and the rest of the block is
-- unchanged.
abbrev pub PutLaw : Type 0
PutLaw =
    (block : List ℕ) (at : ℕ) (bytes : List ℕ) → at + length bytes ≤ length block
    → (length (put_bytes block at bytes) ≡ length block) × (part (put_bytes block at bytes) at (length bytes) ≡ bytes)
    × ((from n : ℕ) → AreApart from n at (length bytes) → part (put_bytes block at bytes) from n ≡ part block from n)

-- The numbers of an arena.

-- A new arena owns exactly its numbers, and all of them are free.
abbrev pub OwnsItsNumbers : Type 0
OwnsItsNumbers =
    (first count number : ℕ)
    → ((is_own (all_free first count) number ≡ true) ↔ ((first ≤ number) × (number < first + count)))
    × (is_free (all_free first count) number ≡ is_own (all_free first count) number)

-- Taking or giving a number changes only whether that number is free, and doesn't change which numbers are owned.
pub record ChangesOne (a : Numbers) (number : ℕ) (free : Bool) : Type 0 where
  pub changed : is_free (with_free a number free) number ≡ free
  pub others : (other : ℕ) → other ≢ number → is_free (with_free a number free) other ≡ is_free a other
  pub owned : (other : ℕ) → is_own (with_free a number free) other ≡ is_own a other

abbrev pub ChangeLaw : Type 0
ChangeLaw = (a : Numbers) (number : ℕ) (free : Bool) → is_own a number ≡ true → ChangesOne a number free

-- Taking a block and giving it back leaves the arena as it was.
abbrev pub GivenBack : Type 0
GivenBack = (a : Numbers) (number : ℕ) → is_free a number ≡ true → with_free (with_free a number false) number true ≡ a

-- A split partitions the numbers: each is in exactly one half.
pub record PartsNumbers (a : Numbers) (at : ℕ) : Type 0 where
  pub each : (number : ℕ) → is_own a number ≡ (is_own (numbers_below a at) number || is_own (numbers_from a at) number)
  pub once : (number : ℕ) → (is_own (numbers_below a at) number && is_own (numbers_from a at) number) ≡ false

abbrev pub CutLaw : Type 0
CutLaw = (a : Numbers) (at : ℕ) → IsInside a at → PartsNumbers a at

-- The count of free numbers is 0 if and only if no number is free, and changes by one with each number taken or given.
-- All numbers are free if and only if each owned number is. Each free number is owned.
pub record CountsFree (a : Numbers) : Type 0 where
  pub none : (free_count a ≡ 0) ↔ NoneFree a
  pub all : (are_all_free a ≡ true) ↔ ((number : ℕ) → is_own a number ≡ true → is_free a number ≡ true)
  pub own : (number : ℕ) → is_free a number ≡ true → is_own a number ≡ true
  pub taken : (number : ℕ) → is_free a number ≡ true → free_count (with_free a number false) + 1 ≡ free_count a
  pub given : (number : ℕ) → is_own a number ≡ true → is_free a number ≡ false
      → free_count (with_free a number true) ≡ free_count a + 1

abbrev pub CountLaw : Type 0
CountLaw = (a : Numbers) → CountsFree a

-- Runs.

-- The run that is found is the arena's lowest free run. No run is found if and only if the arena has no free run.
pub record FindsLowest (a : Numbers) (count : ℕ) : Type 0 where
  pub found : (first : ℕ) → (run_in a count ≡ Some first) ↔ IsLowestRun a count first
  pub none : (run_in a count ≡ None) ↔ ((first : ℕ) → IsNoRun a first count)

abbrev pub LowestLaw : Type 0
LowestLaw = (a : Numbers) (count : ℕ) → 0 < count → FindsLowest a count

-- Taking a run changes only the run's numbers, which stop being free. The arena owns the same numbers as before, and
-- `count` fewer of them are free.
pub record TakesRun (a : Numbers) (first count : ℕ) : Type 0 where
  pub taken : (k : ℕ) → k < count → is_free (without_run a first count) (first + k) ≡ false
  pub others : (number : ℕ) → ((k : ℕ) → k < count → number ≢ first + k)
      → is_free (without_run a first count) number ≡ is_free a number
  pub owned : (number : ℕ) → is_own (without_run a first count) number ≡ is_own a number
  pub counted : free_count (without_run a first count) + count ≡ free_count a

abbrev pub RunLaw : Type 0
RunLaw = (a : Numbers) (first count : ℕ) → IsFreeRun a first count → TakesRun a first count
