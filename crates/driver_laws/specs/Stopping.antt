-- The calls by which both sides of a queue are disabled and blocks are taken back, with device steps between them.
use Rattle.std.specs.Prelude.{◌++◌, ◌≡◌, ◌⊎◌, List, false, ℕ}
use Rattle.pmd_driver.specs.PmdAccess.Home.{Bringing, Brings}
use Rattle.driver_laws.specs.Ending.{Each, IsAsking, IsEnding}
use Rattle.driver_laws.specs.StartPrelude.{AtPort, Block, Call, Event, IsSwitched, PmdFault, SwitchFails}

-- `P` holds for the events of the calls that were made between `old` and `new`.
abbrev pub AreMadeOf : (Event Block → Type 0) → List Call → List Call → Type 0
AreMadeOf P old new = (calls : List Call) × (new ≡ old ++ calls) × Each (λ c. P c.event) calls

-- `Ends`: the calls are calls of a stop, which may take blocks. `Asks`: the calls only disable sides or wait for that,
-- and take no block.
abbrev pub Ends : AtPort → List Call → List Call → Type 0
Ends q old new = AreMadeOf (IsEnding q) old new

abbrev pub Asks : AtPort → List Call → List Call → Type 0
Asks q old new = AreMadeOf (IsAsking q) old new

-- Blocks are taken only after both sides have read as off. Either the calls only disable sides or wait for that
-- (`Asks`). Or such calls are followed by a completed switch-off and then by the calls of a stop (`EndsOnceOff`).
pub record EndsOnceOff (q : AtPort) (old new : List Call) : Type 0 where
  pub mid : List Call
  pub off : List Call
  pub asks : Asks q old mid
  pub switched : IsSwitched q mid off false 1000
  pub ends : Ends q off new

abbrev pub TakesOnceOff : AtPort → List Call → List Call → Type 0
TakesOnceOff q old new = Asks q old new ⊎ EndsOnceOff q old new

-- The calls of a switch-off, completed or failed, only disable sides or wait for that. The calls by which blocks are
-- taken back are calls of a stop.

abbrev pub SwitchedOffAsks : Type 0
SwitchedOffAsks = (q : AtPort) (old new : List Call) → IsSwitched q old new false 1000 → Asks q old new

abbrev pub UnswitchedAsks : Type 0
UnswitchedAsks =
    (f : PmdFault) (q : AtPort) (old new : List Call) → SwitchFails f q old new false 1000 → Asks q old new

abbrev pub BringingEnds : Type 0
BringingEnds = (q : AtPort) (count : ℕ) (s t : Bringing) → Brings count s t → Ends q s.made t.made
