-- Lemmas about stored calls to which one call is added.
use Rattle.std.proofs.Common.{◌≡◌, List, [], ◌∷◌, ◌++◌, refl, sym, ap, ◌∙◌, append_assoc, append-nil}
use Rattle.nic_device.specs.DmaArena.Block.{Block}
use Rattle.nic_device.specs.declared.event.Event.{Event}
use Rattle.device_lock.specs.declared.calls.Made.{Made}
use Rattle.device_lock.specs.declared.entry.Call.{Call}
use Rattle.device_lock.specs.declared.resting.IdleSteps.{IdleSteps}
use Rattle.device_lock.specs.Calls.{rested_calls, made_calls, calls_in}
use Rattle.device_lock.specs.Resting.{idle_calls, steps_in}

pub made-more : (made : List Made) (m : Made) → made_calls (made ++ m ∷ []) ≡ calls_in made m.rested ++ m.call ∷ []
made-more [] m = refl
made-more (x ∷ made) m =
    let first = rested_calls x.rested in
    let then = x.call ∷ made_calls made in
    let last = rested_calls m.rested in
    ap (λ (l : List Call). first ++ (x.call ∷ l)) (made-more made m)
    ∙ sym (ap (λ (l : List Call). l ++ m.call ∷ []) (append_assoc first then last)
    ∙ append_assoc first (then ++ last) (m.call ∷ []))

pub calls-more : (made : List Made) (rested none : IdleSteps) (call : Call) → steps_in none ≡ []
    → calls_in (made ++ record { rested = rested; call = call } ∷ []) none ≡ calls_in made rested ++ call ∷ []
calls-more made rested none call is =
    let m : Made = record { rested = rested; call = call } in
    ap (λ (l : List (Event Block)). made_calls (made ++ m ∷ []) ++ idle_calls l) is ∙ append-nil _ ∙ made-more made m
