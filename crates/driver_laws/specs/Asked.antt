-- Which blocks of an arena the arena's driver tries to lend over a history. Others may have the arena's remaining
-- blocks in hand, and lend them.
use Rattle.std.specs.Prelude.{◌&&◌, ◌++◌, ◌∷◌, ◌≡◌, ◌≢◌, IsTrue, List, ℕ}
use Rattle.driver_laws.specs.{Before.is_asked, StartPrelude.Blocks, StartPrelude.Entry, StartPrelude.Numbers}
use Rattle.driver_laws.specs.{StartPrelude.Watched}
use Rattle.{ring_laws.specs.Lent.LendsNone, driver_laws.specs.StartPrelude.calls_of}
use Rattle.{driver_laws.specs.StartPrelude.is_own}
use Rattle.pmd_driver.specs.DeviceLock.Alone.{has_begun}

-- The blocks of the arena that the driver's pass tries to lend, whatever the reply.
abbrev pub asked_of : Watched → Numbers → List Entry → Blocks
asked_of w a h number = is_own a number && is_asked (calls_of w.pass h) number

-- After the pass's first entry, no other pass tries to lend any of these blocks, whatever the reply.
abbrev pub OthersLendNone : ℕ → Blocks → List Entry → Type 0
OthersLendNone pass own h =
    (before : List Entry) (e : Entry) (following : List Entry) → h ≡ before ++ e ∷ following
    → IsTrue (has_begun pass before)
    → e.pass ≢ pass → LendsNone own e.event
