-- The replies and the state of a run after one more event.
use Rattle.std.proofs.Common.{◌≡◌, ℕ, ◌+◌, ◌<◌, List, [], ◌∷◌, ◌++◌, length, take, drop, get_or, refl, ap, sym, ◌∙◌, reverse}
use Rattle.std.proofs.lemmas.List.{take_more, drop_more, reverse-append, reverse-reverse}
use Rattle.rx_ring.specs.DmaArena.Block.{Block}
use Rattle.nic_device.specs.State.{State}
use Rattle.nic_device.specs.Step.{step_of}
use Rattle.nic_device.specs.Run.{replies_of, state_after}
use Rattle.nic_device.specs.declared.event.Event.{Event}

pub replies-append : (s : State) (es : List (Event Block)) (e : Event Block)
    → replies_of s (es ++ e ∷ []) ≡ replies_of s es ++ (step_of (state_after s es) e).reply ∷ []
replies-append s [] e = refl
replies-append s (x ∷ es) e = ap (λ rs. (step_of s x).reply ∷ rs) (replies-append (step_of s x).state es e)

pub state-append : (s : State) (es : List (Event Block)) (e : Event Block)
    → state_after s (es ++ e ∷ []) ≡ (step_of (state_after s es) e).state
state-append s [] e = refl
state-append s (x ∷ es) e = state-append (step_of s x).state es e

-- The replies so far, followed by the reply to one more event.
pub replies_more : (s : State) (es : List (Event Block)) (n : ℕ) (e : Event Block) → n < length es → get_or es n e ≡ e
    → replies_of s (take (n + 1) es) ≡ replies_of s (take n es) ++ (step_of (state_after s (take n es)) e).reply ∷ []
replies_more s es n e h is = rw (take_more es n e h, is) (replies-append s (take n es) e)

pub state_more : (s : State) (es : List (Event Block)) (n : ℕ) (e : Event Block) → n < length es → get_or es n e ≡ e
    → state_after s (take (n + 1) es) ≡ (step_of (state_after s (take n es)) e).state
state_more s es n e h is = rw (take_more es n e h, is) (state-append s (take n es) e)

-- What `pop` returns from the reversed rest.
pub popped : {X : Type 0} (all : List X) (n : ℕ) (new : List X) (e : X) → n < length all
    → reverse (drop n all) ≡ new ++ e ∷ [] → (get_or all n e ≡ e) × (new ≡ reverse (drop (n + 1) all))
popped all n new e h is =
    let split = drop_more all n e h in
    let turned : drop n all ≡ e ∷ reverse new = sym (reverse-reverse (drop n all)) ∙ ap reverse is
    ∙ reverse-append new (e ∷ []) in
    let back = reverse-reverse new in
    (cc, cc)
