-- What a driver's own calls do to its queue while its sides are on, and what the calls of its stop do.
use Rattle.std.specs.Prelude.{[], ⊤, ◌∷◌, ◌≡◌, IsFalse, IsTrue, List, true, ℕ}
use Rattle.driver_laws.specs.StartPrelude.{AtPort, Block, Call, Dir, Event, IsNumberOf, Port, RowId, enable_row}
use Rattle.driver_laws.specs.StartPrelude.{has_bit}
use Rattle.driver_laws.specs.StartPrelude.{is_driven, is_step}
use Rattle.pmd_driver.specs.NicDevice.declared.event.Event.TheVariants as event

-- `P` holds for each call in the list.
abbrev pub Each : (Call → Type 0) → List Call → Type 0
Each P [] = ⊤
Each P (c ∷ cs) = P c × Each P cs

-- The port is the driver's, and the number identifies a register of the driver's queue.
abbrev pub NamesDriven : AtPort → Port → ℕ → Type 0
NamesDriven q port number =
    (row : RowId) × (port ≡ q.port) × (is_driven row ≡ true) × IsNumberOf q.port row q.queue number

-- If the event writes a register, it does so at the driver's port, and the register belongs to the driver's queue.
abbrev pub IsPlain : AtPort → Event Block → Type 0
IsPlain q (event.Write port number word) = NamesDriven q port number
IsPlain q other = ⊤

-- An event by which a driver disables a side or waits for that: a write that clears bit 25 of one of the queue's enable
-- words, a register read, or a device step.
abbrev pub IsAsking : AtPort → Event Block → Type 0
IsAsking q (event.Write port number word) =
    (side : Dir) × (port ≡ q.port) × IsFalse (has_bit 25 word) × IsNumberOf q.port (enable_row side) q.queue number
IsAsking q (event.Read port number) = ⊤
IsAsking q e = IsTrue (is_step e)

-- An event of a stop: one by which a driver disables a side or waits for that, or one that takes a block.
abbrev pub IsEnding : AtPort → Event Block → Type 0
IsEnding q (event.Take number) = ⊤
IsEnding q e = IsAsking q e
