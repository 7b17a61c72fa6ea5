-- Both rings came up and both sides were enabled; the receive ring may be filled next.
use Rattle.std.specs.Prelude.{[], ◌≡◌, List, true, ℕ}
use Rattle.driver_laws.specs.StartPrelude.{Agree, Agrees, AtPort, Call, Entry, IsReceiveReady, IsSwitched}
use Rattle.driver_laws.specs.StartPrelude.{IsTransmitReady}
use Rattle.driver_laws.specs.StartPrelude.{Numbers, Receive, Sender, State, Watched, partial_on, is_frame, is_size}
use Rattle.driver_laws.specs.{Along.AtCalls, Along.AtEntries, Along.BeforeLast, Along.IsAlong, Points.HasGround}
use Rattle.driver_laws.specs.Unused.{WentOn}

-- The rings came up one after the other, and then both sides were enabled.
pub record AreOn (q : AtPort) (size frame : ℕ) (old : List Call) (a : Numbers) (new : List Call) (v : Receive)
    (t : Sender) : Type 0 where
  pub sized : is_size size ≡ true
  pub framed : is_frame frame ≡ true
  pub ready_made : List Call
  pub both_made : List Call
  pub ready_arena : Numbers
  pub both_arena : Numbers
  pub receive : IsReceiveReady q size frame old a ready_made ready_arena v
  pub transmit : IsTransmitReady q size frame ready_made ready_arena both_made both_arena t
  pub switched : IsSwitched q both_made new true 1000

-- Over a history that leaves the queue alone, `P` holds if the driver enabled both sides in this way. The premise: Just
-- before the driver's first access, port and queue number identify the queue, and the device's frame limit is the
-- driver's packet limit.
abbrev pub WhereOn : (Watched → State → List Entry → List Call → Receive → Sender → Type 0) → Type 0
WhereOn P =
    (w : Watched) (origin : State) (h : List Entry) (q : AtPort) (size frame : ℕ) (old : List Call) (a : Numbers)
    (new : List Call) (v : Receive) (t : Sender) (up : AreOn q size frame old a new v t) → IsAlong w origin h →
    BeforeLast w origin h up.receive.quiet.0 (HasGround w.queue q frame) → P w origin h new v t

-- At each point where the pass has made exactly these calls, the device and the driver agree on both sides: nothing is
-- posted or sent yet.
abbrev pub SwitchedSidesAgree : Type 0
SwitchedSidesAgree =
    WhereOn (λ w origin h new v t. AtCalls w origin h new (λ s. Agree w.queue s [] v × Agrees s w.queue [] t))

-- At that point, both sides are on, with nothing received or sent since they were enabled.
abbrev pub SwitchedSidesGoOn : Type 0
SwitchedSidesGoOn = WhereOn (λ w origin h new v t. AtEntries w h new (WentOn w.queue origin))

-- At that point, no part of a frame that waits for the queue is written yet.
abbrev pub SwitchedSidesBeginNone : Type 0
SwitchedSidesBeginNone =
    WhereOn (λ w origin h new v t. AtCalls w origin h new (λ s. partial_on w.queue s.waiting ≡ 0))
