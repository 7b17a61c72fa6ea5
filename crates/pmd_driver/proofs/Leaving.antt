-- Lemmas: a driver returned by a refused start has handed out and accepted no packet.
use Rattle.std.proofs.Common.{◌≡◌, ℕ, List, [], ◌∷◌, inl, inr, refl, ap, ◌∙◌}
use Rattle.pmd_access.specs.NicDevice.DmaArena.Numbers.{Numbers}
use Rattle.pmd_access.specs.DeviceLock.declared.entry.Call.{Call}
use Rattle.pmd_driver.specs.Halted.{Halted}
use Rattle.pmd_access.specs.Named.{AtPort}
use Rattle.pmd_rx.specs.Receive.{Receive}
use Rattle.pmd_tx.specs.Sending.{Sender}
use Rattle.pmd_driver.specs.Started.{left_accepted, left_handed, IsHome, IsHalfStarted, IsLeftWith, StopsStarting}
use Rattle.pmd_driver.specs.Starting.{IsReceiveReady}
use Rattle.pmd_driver.specs.declared.start.Rest.{Rest}
use Rattle.pmd_driver.specs.declared.start.Rest.TheVariants as rest
use Rattle.pmd_driver.specs.declared.start.StartRefused.{StartRefused}

pub home_handed : (a : Numbers) (r : Rest) → IsHome a r → left_handed r ≡ []
home_handed a (rest.Home h) is = let (arena, lost, handed, accepted) = is in handed
home_handed a (rest.Running p) is = absurd is

pub home_accepted : (a : Numbers) (r : Rest) → IsHome a r → left_accepted r ≡ []
home_accepted a (rest.Home h) is = let (arena, lost, handed, accepted) = is in accepted
home_accepted a (rest.Running p) is = absurd is

pub half_handed : (q : AtPort) (h : Halted) (r : Rest) → h.handed ≡ [] → IsHalfStarted q h r → left_handed r ≡ []
half_handed q h r none is = ap left_handed is ∙ none

half_accepted : (q : AtPort) (h : Halted) (r : Rest) → h.accepted ≡ [] → IsHalfStarted q h r → left_accepted r ≡ []
half_accepted q h r none is = ap left_accepted is ∙ none

pub ready_handed : {q : AtPort} {size frame : ℕ} {old new : List Call} {a b : Numbers} {v : Receive}
    → IsReceiveReady q size frame old a new b v → v.handed ≡ []
ready_handed ready = ap (λ (x : Receive). x.handed) ready.fresh

-- No ring was prepared.
pub before_handed : (q : AtPort) (a : Numbers) (out : List ℕ) (r : Rest) → IsLeftWith q a out r → left_handed r ≡ []
before_handed q a [] r is = home_handed a r is
before_handed q a (n ∷ ns) r is = half_handed q _ r refl is

before_accepted : (q : AtPort) (a : Numbers) (out : List ℕ) (r : Rest) → IsLeftWith q a out r → left_accepted r ≡ []
before_accepted q a [] r is = home_accepted a r is
before_accepted q a (n ∷ ns) r is = half_accepted q _ r refl is

-- A start refused during its events returns a driver that accepted no packet.
pub stops_accepted : (q : AtPort) (size frame : ℕ) (old : List Call) (a : Numbers) (new : List Call) (e : StartRefused)
    → StopsStarting q size frame old a new e → left_accepted e.rest ≡ []
stops_accepted q size frame old a new e (inl none) = before_accepted q none.arena none.out e.rest none.left
stops_accepted q size frame old a new e (inr (inl one)) = half_accepted q _ e.rest refl one.left
stops_accepted q size frame old a new e (inr (inr both)) =
    half_accepted q _ e.rest (ap (λ (x : Sender). x.accepted) both.transmit.fresh) both.left
