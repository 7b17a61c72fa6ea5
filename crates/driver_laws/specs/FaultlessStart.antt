-- On a queue with both sides off, a start doesn't fail with `DeviceFault` before both sides are enabled, over a history
-- that leaves the queue alone.
use Rattle.std.specs.Prelude.{[], ◌++◌, ◌∷◌, ◌≡◌, IsFalse, List, true, ℕ}
use Rattle.pmd_driver.specs.NicDevice.DmaArena.Numbers.{is_free}
use Rattle.driver_laws.specs.StartPrelude.{AreSteps, AtPort, Call, DeviceFault, Entry, IsReceiveReady, IsTransmitReady}
use Rattle.driver_laws.specs.StartPrelude.{Numbers, PreparingFails, Receive, ReceiveFails, Sender, State, SwitchFails}
use Rattle.driver_laws.specs.StartPrelude.{Tx}
use Rattle.driver_laws.specs.StartPrelude.{Watched, has_block, is_step}
use Rattle.driver_laws.specs.{Along.AtCalls, Along.BeforeLast, Along.IsAlong, Before.is_asked, Quieting.IsQuiet}

-- The history has no point where the pass has made exactly these calls.
abbrev pub Never : Watched → State → List Entry → List Call → Type 0
Never w origin h calls = AtCalls w origin h calls (λ s. ⊥)

-- `P` holds just before the pass's next call after `old`, not counting device steps.
abbrev pub BeforeNext : Watched → State → List Entry → List Call → (State → Type 0) → Type 0
BeforeNext w origin h old P =
    (before : List Call) (c : Call) → AreSteps before → IsFalse (is_step c.event) →
    BeforeLast w origin h (old ++ (before ++ c ∷ [])) P

-- Just before the last of the calls, none of the arena's free blocks that the calls try to lend is lent.
abbrev pub NoneIsLent : Watched → State → List Entry → List Call → Numbers → Type 0
NoneIsLent w origin h calls a =
    (number : ℕ) → is_free a number ≡ true → is_asked calls number ≡ true →
    BeforeLast w origin h calls (λ s. IsFalse (has_block s.memory number))

-- Suppose that both sides of the queue are off, with no enable request pending, just before the start's first call.
-- Then the start reads both sides as off. Suppose also that no free block of the arena that the start tries to lend is
-- already lent. Then each value written to the receive ring's registers takes effect, and each of the ring's blocks is
-- lent.
abbrev pub ReceiveIsReady : Type 0
ReceiveIsReady =
    (w : Watched) (q : AtPort) (origin : State) (h : List Entry) (size frame : ℕ) (old : List Call) (a : Numbers)
    (new : List Call) (b : Numbers) (out : List ℕ) → IsAlong w origin h →
    BeforeNext w origin h old (IsQuiet w.queue q frame) → ReceiveFails DeviceFault q size old a new b out →
    NoneIsLent w origin h new b → Never w origin h new

-- Next, under the same conditions, each value written to the transmit ring's registers takes effect, and each of the
-- ring's blocks is lent.
abbrev pub TransmitIsReady : Type 0
TransmitIsReady =
    (w : Watched) (q : AtPort) (origin : State) (h : List Entry) (size frame : ℕ) (old : List Call) (a : Numbers)
    (mid : List Call) (b : Numbers) (v : Receive) (new : List Call) (c : Numbers) (out : List ℕ) →
    IsAlong w origin h → BeforeNext w origin h old (IsQuiet w.queue q frame) →
    IsReceiveReady q size frame old a mid b v →
    PreparingFails DeviceFault q Tx size mid b new c out → NoneIsLent w origin h new c → Never w origin h new

-- Under the first of these conditions, no access is stray when the start requests that both sides be enabled and then
-- polls them.
abbrev pub SwitchingIsNeverStray : Type 0
SwitchingIsNeverStray =
    (w : Watched) (q : AtPort) (origin : State) (h : List Entry) (size frame : ℕ) (old : List Call) (a : Numbers)
    (mid : List Call) (b : Numbers) (v : Receive) (both : List Call) (c : Numbers) (t : Sender) (new : List Call) →
    IsAlong w origin h → BeforeNext w origin h old (IsQuiet w.queue q frame) →
    IsReceiveReady q size frame old a mid b v →
    IsTransmitReady q size frame mid b both c t → SwitchFails DeviceFault q both new true 1000 → Never w origin h new
