-- The calls that the driver's pass may make in addition to those of the driver's halves: events that leave every queue
-- alone.
use Rattle.std.specs.Prelude.{[], ⊤, ◌&&◌, ◌++◌, ◌∷◌, ◌≡◌, Bool, IsTrue, List, None, Option, Some, false, not, true, ℕ}
use Rattle.pmd_driver.specs.NicDevice.{RegTable.Place.place_among, RegTable.Runs.runs, VfMap.Owner.is_receive}
use Rattle.pmd_driver.specs.NicDevice.{VfMap.Owner.is_transmit, declared.event.Port.TheVariants.Pf}
use Rattle.pmd_driver.specs.NicDevice.{declared.event.Port.TheVariants.Vf}
use Rattle.pmd_driver.specs.DeviceLock.Alone.{is_setting}
use Rattle.pmd_driver.specs.Halves.{Drives}
use Rattle.pmd_driver.specs.PmdAccess.Made.{AddsSome}
use Rattle.driver_laws.specs.Histories.{OthersLeaveAlone}
use Rattle.driver_laws.specs.StartPrelude.{Adds, AllOwn, Block, Blocks, Call, Doer, Entry, Event, Halves, Place, Reply}
use Rattle.driver_laws.specs.StartPrelude.{State, Watched, asks_pool_reset, calls_of, is_neither, played_by, row_of}
use Rattle.pmd_driver.specs.NicDevice.declared.event.Event.TheVariants as event

-- Whether no queue relies on a register to which this value is written: the register is neither a setting nor part of a
-- queue's side, and the write doesn't request a pool reset. True if there is no register.
abbrev pub spares_all : Option Place → ℕ → Bool
spares_all None word = true
spares_all (Some p) word =
    not (is_setting p.row) && not (is_receive p.row) && not (is_transmit p.row)
    && not (asks_pool_reset (row_of p.row).kind word)

-- Whether an event is harmless. Through the physical function, a harmless event writes no register that a queue relies
-- on; through a virtual function, it writes no register at all. It lends, takes and pokes no block.
abbrev pub is_harmless : Event Block → Bool
is_harmless (event.Write Pf number word) = spares_all (place_among runs number) word
is_harmless (event.Write (Vf v) offset word) = false
is_harmless (event.Lend block) = false
is_harmless (event.Take number) = false
is_harmless (event.Poke16 address bytes) = false
is_harmless (event.Read port number) = true
is_harmless (event.Peek16 address) = true
is_harmless (event.Arrive frame) = true
is_harmless (event.Link up) = true
is_harmless event.Collect = true
is_harmless event.RxStep = true
is_harmless (event.TxStep queue) = true
is_harmless (event.IntStep group) = true
is_harmless (event.QueueStep dir queue) = true
is_harmless event.EepromStep = true

-- Each of these calls is harmless.
abbrev pub AreHarmless : List Call → Type 0
AreHarmless [] = ⊤
AreHarmless (c ∷ calls) = IsTrue (is_harmless c.event) × AreHarmless calls

-- `new` is `old` followed by harmless calls.
abbrev pub AddsHarmless : List Call → List Call → Type 0
AddsHarmless old new = (more : List Call) × (new ≡ old ++ more) × AreHarmless more

-- A call of a harmless event through a `Nic` adds only harmless calls, by the `Nic`'s clause `made`. A refused call
-- adds only harmless calls too, by the clause `refused`.
abbrev pub CallsAddHarmless : Type 0
CallsAddHarmless =
    (old new : List Call) (e : Event Block) (reply : Reply Block) → Adds old new e reply → IsTrue (is_harmless e) →
    AddsHarmless old new

abbrev pub StepsAddHarmless : Type 0
StepsAddHarmless = (old new : List Call) → AddsSome old new → AddsHarmless old new

-- The calls that belong to neither half are harmless. The doers say which half makes each call; calls after the last
-- doer belong to neither half.
abbrev pub OthersHarmless : List Doer → List Call → Type 0
OthersHarmless [] calls = AreHarmless calls
OthersHarmless (d ∷ doers) [] = ⊤
OthersHarmless (d ∷ doers) (c ∷ calls) =
    (IsTrue (is_neither d) → IsTrue (is_harmless c.event)) × OthersHarmless doers calls

-- Calls were made that lead the halves from one state to another. Those that belong to neither half are harmless.
abbrev pub Leads : List Call → Halves → List Call → Halves → Type 0
Leads old h new k =
    (doers : List Doer) × (since : List Call) × (new ≡ old ++ since) × AllOwn h doers since
    × (k ≡ played_by h doers since) × OthersHarmless doers since

-- The driver's calls lead the halves in this way, because those that belong to neither half are device steps.
abbrev pub DrivesLead : Type 0
DrivesLead = (old new : List Call) (h k : Halves) → Drives old h new k → Leads old h new k

-- Harmless calls by themselves leave both halves unchanged. One sequence of calls that leads the halves on, followed by
-- another such sequence, leads the halves on.
abbrev pub HarmlessLead : Type 0
HarmlessLead = (old new : List Call) (h : Halves) → AddsHarmless old new → Leads old h new h

abbrev pub LeadsOn : Type 0
LeadsOn = (old mid new : List Call) (h j k : Halves) → Leads old h mid j → Leads mid j new k → Leads old h new k

-- Harmless calls leave the queue alone.
abbrev pub HarmlessLeaveAlone : Type 0
HarmlessLeaveAlone =
    (w : Watched) (mine : Blocks) (s : State) (doers : List Doer) (es : List Entry) →
    OthersHarmless doers (calls_of w.pass es) → OthersLeaveAlone w mine s doers es
