-- The replies to memory calls, and how one call shows the effect of another.
use Rattle.std.specs.Prelude.{ℕ, ◌≡◌, ◌<◌, ◌+◌, ◌*◌, ◌/◌, ◌%◌, List, length, take, drop, Some, None}
use Rattle.std.specs.FinMap as map
use Rattle.nic_device.specs.DmaArena.Block.{Block, IsBlock}
use Rattle.nic_device.specs.declared.event.Event.TheVariants as event
use Rattle.nic_device.specs.declared.event.Reply.TheVariants.{Done, Bytes, Buf, Twice, NotLent}
use Rattle.datasheet_laws.specs.FramePrelude.{AreApart, IsSound, State, after, gives, reply_to, step_of}

-- No block with this number is lent (`IsNotLent`), or the block with this number is lent with these bytes
-- (`IsLentWith`).
abbrev pub IsNotLent : State → ℕ → Type 0
IsNotLent s number = map.get s.memory number ≡ None

abbrev pub IsLentWith : State → ℕ → List ℕ → Type 0
IsLentWith s number bytes = map.get s.memory number ≡ Some bytes

-- The 16 bytes of a block starting at `at`.
abbrev pub sixteen : ℕ → List ℕ → List ℕ
sixteen at bytes = take 16 (drop at bytes)

-- A block becomes lent if no block with its number is lent; otherwise it is handed back unused.
pub record Lends (s : State) (block : Block) : Type 0 where
  pub fresh : IsNotLent s block.number → reply_to s (event.Lend block) ≡ Done
  pub is_lent : IsNotLent s block.number → IsLentWith (after s (event.Lend block)) block.number block.bytes
  pub twice : (bytes : List ℕ) → IsLentWith s block.number bytes → step_of s (event.Lend block) ≡ gives (Twice block) s

-- A lent block is returned with the bytes that it then contains, and is no longer lent.
pub record Takes (s : State) (number : ℕ) : Type 0 where
  pub none : IsNotLent s number → step_of s (event.Take number) ≡ gives NotLent s
  pub block : (bytes : List ℕ) → IsLentWith s number bytes
      → reply_to s (event.Take number) ≡ Buf (record { number = number; bytes = bytes })
  pub gone : IsNotLent (after s (event.Take number)) number

-- What a peek returns at an address that is a multiple of 16: byte 0 of block b is at address 2,048 * b.
pub record Looks (s : State) (address : ℕ) : Type 0 where
  pub none : IsNotLent s (address / 2048) → step_of s (event.Peek16 address) ≡ gives NotLent s
  pub bytes : (block : List ℕ) → IsLentWith s (address / 2048) block
      → step_of s (event.Peek16 address) ≡ gives (Bytes (sixteen (address % 2048) block)) s

-- What a poke of 16 bytes at such an address does.
pub record Writes (s : State) (address : ℕ) (bytes : List ℕ) : Type 0 where
  pub none : IsNotLent s (address / 2048) → step_of s (event.Poke16 address bytes) ≡ gives NotLent s
  pub done : (block : List ℕ) → IsLentWith s (address / 2048) block
      → reply_to s (event.Poke16 address bytes) ≡ Done

pub record MemoryCallsAnswer : Type 0 where
  pub lend : (s : State) (block : Block) → Lends s block
  pub take : (s : State) (number : ℕ) → Takes s number
  pub peek : (s : State) → IsSound s → (address : ℕ) → address % 16 ≡ 0 → Looks s address
  pub poke : (s : State) → IsSound s → (address : ℕ) → address % 16 ≡ 0 → (bytes : List ℕ) → Writes s address bytes

-- A peek returns what was poked at the same address. A poke doesn't change a peek that shares no byte with it.
pub record PokesShow (s : State) (address : ℕ) (bytes : List ℕ) : Type 0 where
  pub same : reply_to s (event.Poke16 address bytes) ≡ Done
      → reply_to (after s (event.Poke16 address bytes)) (event.Peek16 address) ≡ Bytes bytes
  pub apart : (other : ℕ) → AreApart other 16 address 16
      → reply_to (after s (event.Poke16 address bytes)) (event.Peek16 other) ≡ reply_to s (event.Peek16 other)

abbrev pub PokedIsPeeked : Type 0
PokedIsPeeked =
    (s : State) → IsSound s → (address : ℕ) (bytes : List ℕ) → length bytes ≡ 16 → PokesShow s address bytes

-- A block that was just lent shows its bytes.
abbrev pub LentIsPeeked : Type 0
LentIsPeeked =
    (s : State) → IsSound s → (block : Block) → IsBlock block → reply_to s (event.Lend block) ≡ Done →
    (at : ℕ) → at < 2048 → at % 16 ≡ 0 →
    reply_to (after s (event.Lend block)) (event.Peek16 (2048 * block.number + at)) ≡ Bytes (sixteen at block.bytes)

-- A block is taken back with the bytes that each peek showed before, whether the driver or a device step wrote them.
abbrev pub TakenIsAsPeeked : Type 0
TakenIsAsPeeked =
    (s : State) → IsSound s → (number : ℕ) (block : Block) → reply_to s (event.Take number) ≡ Buf block →
    (at : ℕ) → at < 2048 → at % 16 ≡ 0 →
    reply_to s (event.Peek16 (2048 * number + at)) ≡ Bytes (sixteen at block.bytes)
