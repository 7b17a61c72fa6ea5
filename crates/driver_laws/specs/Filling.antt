-- How far a start had got when it failed with `DeviceFault`.
use Rattle.std.specs.Prelude.{[], ⊤, ◌≡◌, ◌⊎◌, List, true, ℕ}
use Rattle.pmd_driver.specs.PmdRx.Filling.{StopsFilling}
use Rattle.ring_laws.specs.ReceiveUp.{IsUp}
use Rattle.driver_laws.specs.StartPrelude.{Agree, Agrees, AtPort, Call, DeviceFault, Entry, IsReceiveReady}
use Rattle.driver_laws.specs.StartPrelude.{IsTransmitReady}
use Rattle.driver_laws.specs.StartPrelude.{Numbers, PreparingFails, Receive, ReceiveFails, Sender, StartRefused, State}
use Rattle.driver_laws.specs.StartPrelude.{StopsStarting, SwitchFails, Tx, Watched}
use Rattle.driver_laws.specs.{Along.AtCalls, Along.IsAlong, FaultlessStart.BeforeNext, FaultlessStart.Never}
use Rattle.driver_laws.specs.{FaultlessStart.NoneIsLent}
use Rattle.driver_laws.specs.{On.AreOn, Quieting.IsQuiet}
use mathlib.Core.Logic.{inl, inr}

-- The start fails before the receive ring is ready; some of the ring's blocks may already be lent.
pub record FaultsBeforeOne (q : AtPort) (size : ℕ) (old : List Call) (a : Numbers) (new : List Call) : Type 0 where
  pub arena : Numbers
  pub out : List ℕ
  pub fails : ReceiveFails DeviceFault q size old a new arena out

-- The start fails after the receive ring is ready and before the transmit ring is.
pub record FaultsAfterOne (q : AtPort) (size frame : ℕ) (old : List Call) (a : Numbers) (new : List Call) : Type 0 where
  pub made : List Call
  pub ready_arena : Numbers
  pub arena : Numbers
  pub empty : Receive
  pub out : List ℕ
  pub receive : IsReceiveReady q size frame old a made ready_arena empty
  pub fails : PreparingFails DeviceFault q Tx size made ready_arena new arena out

-- The start fails after both rings are ready and before both sides are enabled.
pub record FaultsSwitching (q : AtPort) (size frame : ℕ) (old : List Call) (a : Numbers) (new : List Call) : Type 0
  where
    pub ready_made : List Call
    pub both_made : List Call
    pub ready_arena : Numbers
    pub both_arena : Numbers
    pub empty : Receive
    pub sender : Sender
    pub receive : IsReceiveReady q size frame old a ready_made ready_arena empty
    pub transmit : IsTransmitReady q size frame ready_made ready_arena both_made both_arena sender
    pub fails : SwitchFails DeviceFault q both_made new true 1000

-- The start fails when both sides are on, while it fills the receive ring.
pub record FaultsFilling (q : AtPort) (size frame : ℕ) (old : List Call) (a : Numbers) (new : List Call) : Type 0 where
  pub mid : List Call
  pub empty : Receive
  pub sender : Sender
  pub on : AreOn q size frame old a mid empty sender
  pub arena : Numbers
  pub filled : Receive
  pub fails : StopsFilling DeviceFault mid on.both_arena empty new arena filled

-- The start fails before both sides are on.
abbrev pub FaultsEarly : AtPort → ℕ → ℕ → List Call → Numbers → List Call → Type 0
FaultsEarly q size frame old a new =
    FaultsBeforeOne q size old a new ⊎ FaultsAfterOne q size frame old a new ⊎ FaultsSwitching q size frame old a new

-- If the start fails while it prepares a ring, take the blocks that are still free in the arena and that the calls try
-- to lend. None of these is lent just before the last call.
abbrev pub LendsFresh : (w : Watched) (origin : State) (h : List Entry) (q : AtPort) (size frame : ℕ) (old : List Call)
    (a : Numbers) (new : List Call) → FaultsEarly q size frame old a new → Type 0
LendsFresh w origin h q size frame old a new (inl x) = NoneIsLent w origin h new x.arena
LendsFresh w origin h q size frame old a new (inr (inl x)) = NoneIsLent w origin h new x.arena
LendsFresh w origin h q size frame old a new (inr (inr x)) = ⊤

-- A start that fails with `DeviceFault` at or after its first event fails before both sides are on or while it fills
-- the receive ring.
abbrev pub FaultsAreEarlyOrFilling : Type 0
FaultsAreEarlyOrFilling =
    (q : AtPort) (size frame : ℕ) (old : List Call) (a : Numbers) (new : List Call) (e : StartRefused) →
    StopsStarting q size frame old a new e → e.fault ≡ DeviceFault →
    FaultsEarly q size frame old a new ⊎ FaultsFilling q size frame old a new

-- A start never fails with `DeviceFault` before both sides are on, under two conditions. Both sides are off with no
-- enable request pending just before its first call, and `LendsFresh` holds.
abbrev pub NoFaultIsEarly : Type 0
NoFaultIsEarly =
    (w : Watched) (q : AtPort) (origin : State) (h : List Entry) (size frame : ℕ) (old : List Call) (a : Numbers)
    (new : List Call) → IsAlong w origin h → BeforeNext w origin h old (IsQuiet w.queue q frame) →
    (x : FaultsEarly q size frame old a new) → LendsFresh w origin h q size frame old a new x → Never w origin h new

-- Suppose that a start fails while it fills the receive ring. When it began to fill the ring, the device and the driver
-- agreed on both sides, and the receive side was up.
abbrev pub FillingBeginsWell : Type 0
FillingBeginsWell =
    (w : Watched) (q : AtPort) (origin : State) (h : List Entry) (size frame : ℕ) (old : List Call) (a : Numbers)
    (new : List Call) → IsAlong w origin h →
    BeforeNext w origin h old (IsQuiet w.queue q frame) → (x : FaultsFilling q size frame old a new) →
    AtCalls w origin h x.mid (λ s. IsUp w.queue s × Agree w.queue s [] x.empty × Agrees s w.queue [] x.sender)
