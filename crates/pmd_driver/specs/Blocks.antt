-- A driver's blocks: no block is created, and no block is lost.
use Rattle.std.specs.Prelude.{◌≡◌, ℕ, ◌+◌, List, [], ◌++◌, if◌then◌else◌}
use Rattle.pmd_access.specs.NicDevice.DmaArena.Numbers.{Numbers, is_own, is_free}
use Rattle.pmd_access.specs.NicDevice.DmaArena.Whereabouts.{times_in_hand}
use Rattle.pmd_driver.specs.Halted.{Halted, all_out}
use Rattle.pmd_driver.specs.Driver.{halted_of}
use Rattle.pmd_driver.specs.Running.{Running, rings_out}
use Rattle.pmd_driver.specs.declared.driver.Rings.{Rings}
use Rattle.pmd_driver.specs.declared.start.Rest.{Rest}
use Rattle.pmd_driver.specs.declared.start.Rest.TheVariants as rest

-- The arena owns the same numbers as before. Each number occurs as often in the free blocks of arena `b` and the list
-- `new` together as in the free blocks of arena `a` and the list `out` together.
pub record KeepsEach (a : Numbers) (out : List ℕ) (b : Numbers) (new : List ℕ) : Type 0 where
  pub owns : (n : ℕ) → is_own b n ≡ is_own a n
  pub each : (n : ℕ)
      → (if is_free b n then 1 else 0) + times_in_hand new n ≡ (if is_free a n then 1 else 0) + times_in_hand out n

-- A call to a driver with both rings up: each block occurs as often as before among the free blocks, the blocks in use
-- by the rings, and the blocks in hand, taken together. The blocks `given` were in hand before the call, and the blocks
-- `back` are in hand after it.
abbrev pub KeepsUp : Running → List ℕ → Running → List ℕ → Type 0
KeepsUp r given s back = KeepsEach r.arena (rings_out r ++ given) s.arena (rings_out s ++ back)

-- A call to a driver, running or not: each of its blocks occurs as often as before among the free blocks in its arena,
-- the blocks in use by its rings, and the blocks in hand, taken together. A block of a packet passed to the call was in
-- hand before; a block of a packet that the call hands out or returns is in hand after it.
abbrev pub KeepsBlocks : Rings → List ℕ → Rings → List ℕ → Type 0
KeepsBlocks old given new back =
    KeepsEach (halted_of old).arena (all_out (halted_of old) ++ given) (halted_of new).arena
    (all_out (halted_of new) ++ back)

-- The blocks that are free, in use by the driver, or in hand are exactly those that were free in the arena that the
-- driver was given.
abbrev pub HasAll : Numbers → Halted → List ℕ → Type 0
HasAll a h hand = KeepsEach a [] h.arena (all_out h ++ hand)

-- The driver owns the arena's numbers, and if no block is lost, all of the arena's blocks are free or in use by the
-- driver.
abbrev pub LosesNone : Numbers → Halted → Type 0
LosesNone a h = ((n : ℕ) → is_own h.arena n ≡ is_own a n) × (h.way.lost ≡ 0 → HasAll a h [])

-- A driver was given this arena. Either the arena was returned: it owns exactly the same numbers and, if no block is
-- lost, the same numbers are free. Or a driver remains: it owns these numbers and, if no block is lost, all of the
-- arena's blocks are free or in use by it.
abbrev pub IsWhole : Numbers → Rest → Type 0
IsWhole a (rest.Home h) =
    ((n : ℕ) → is_own h.arena n ≡ is_own a n) × (h.lost ≡ 0 → (n : ℕ) → is_free h.arena n ≡ is_free a n)
IsWhole a (rest.Running p) = LosesNone a (halted_of p.rings)
