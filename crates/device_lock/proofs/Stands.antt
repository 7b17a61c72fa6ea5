-- Lemmas that compare one pass's calls in a history with its calls as stored.
use Rattle.std.proofs.Common.{suc, ◌≡◌, ◌≢◌, ◌↔◌, ℕ, ◌+◌, ◌<◌, List, [], ◌∷◌, ◌++◌, length, get_or, take, drop, refl, sym, ◌∙◌, ap, arith, drop-cons, append_assoc, append-nil}
use Rattle.std.proofs.lemmas.List.{append_cancel_left, take_more, take-append-drop}
use Rattle.device_lock.specs.declared.calls.Made.{Made}
use Rattle.device_lock.specs.declared.entry.Call.{Call}
use Rattle.device_lock.specs.declared.resting.IdleSteps.{IdleSteps}
use Rattle.device_lock.specs.Calls.{rested_calls, made_calls, calls_in}

-- A list of stored calls can be split before any call.

made-append : (a b : List Made) → made_calls (a ++ b) ≡ made_calls a ++ made_calls b
made-append [] b = refl
made-append (m ∷ a) b =
    ap (λ (l : List Call). rested_calls m.rested ++ (m.call ∷ l)) (made-append a b)
    ∙ sym (append_assoc (rested_calls m.rested) (m.call ∷ made_calls a) (made_calls b))

pub made_further : (made : List Made) (i : ℕ) (m : Made) (d : Made) → i < length made → m ≡ get_or made i d
    → (all rest more : List Call) → all ≡ made_calls (take i made) ++ rest → rest ≡ made_calls (m ∷ []) ++ more
    → all ≡ made_calls (take (i + 1) made) ++ more
made_further made i m d lt is all rest more are next =
    are ∙ ap (λ (l : List Call). made_calls (take i made) ++ l) next
    ∙ sym (append_assoc (made_calls (take i made)) (made_calls (m ∷ [])) more)
    ∙ ap (λ (l : List Call). l ++ more)
    (sym (made-append (take i made) (m ∷ []))
    ∙ ap (λ (x : Made). made_calls (take i made ++ x ∷ [])) is
    ∙ ap (λ (l : List Made). made_calls l) (sym (take_more made i d lt)))

made_parts : (made : List Made) (i : ℕ) (m : Made) (d : Made) (rested : IdleSteps) → i < length made
    → m ≡ get_or made i d
    → calls_in made rested
    ≡ made_calls (take i made) ++ (made_calls (m ∷ []) ++ (made_calls (drop (i + 1) made) ++ rested_calls rested))
made_parts made i m d rested lt is =
    let rest = drop (i + 1) made in
    let last = rested_calls rested in
    let one : i + 1 ≡ suc i = omega arith in
    let parts : made ≡ take i made ++ (m ∷ rest) =
    sym (take-append-drop i made)
    ∙ ap (λ (l : List Made). take i made ++ l)
    (drop-cons made i d lt ∙ rw (is, one) refl) in
    ap (λ (l : List Made). made_calls l ++ last) parts
    ∙ ap (λ (l : List Call). l ++ last)
    (made-append (take i made) (m ∷ rest)
    ∙ ap (λ (l : List Call). made_calls (take i made) ++ l) (made-append (m ∷ []) rest))
    ∙ append_assoc (made_calls (take i made)) (made_calls (m ∷ []) ++ made_calls rest) last
    ∙ ap (λ (l : List Call). made_calls (take i made) ++ l)
    (append_assoc (made_calls (m ∷ [])) (made_calls rest) last)

-- If the calls don't continue like the stored ones, the lists differ.
pub made_differ : (made : List Made) (i : ℕ) (m : Made) (d : Made) (rested : IdleSteps) → i < length made
    → m ≡ get_or made i d → (all rest : List Call) → all ≡ made_calls (take i made) ++ rest
    → ((more : List Call) → rest ≢ made_calls (m ∷ []) ++ more) → all ≢ calls_in made rested
made_differ made i m d rested lt is all rest are none same =
    none (made_calls (drop (i + 1) made) ++ rested_calls rested)
    (append_cancel_left (made_calls (take i made)) rest _ (sym are ∙ same ∙ made_parts made i m d rested lt is))

-- The lists also differ if the idle steps after the last call are missing.
pub rest_differs : (made : List Made) (rested : IdleSteps) (all rest : List Call) → all ≡ made_calls made ++ rest
    → ((more : List Call) → rest ≢ rested_calls rested ++ more) → all ≢ calls_in made rested
rest_differs made rested all rest are none same =
    none [] (append_cancel_left (made_calls made) rest _
    (sym are ∙ same ∙ ap (λ (l : List Call). made_calls made ++ l) (sym (append-nil (rested_calls rested)))))

-- If these steps are present, the lists are equal if and only if no call follows.
pub rest_stands : (made : List Made) (rested : IdleSteps) (all rest more : List Call) → all ≡ made_calls made ++ rest
    → rest ≡ rested_calls rested ++ more → (more ≡ []) ↔ (all ≡ calls_in made rested)
rest_stands made rested all rest more are then = (
  λ none. are ∙ ap (λ (l : List Call). made_calls made ++ l)
      (then ∙ ap (λ (l : List Call). rested_calls rested ++ l) none ∙ append-nil (rested_calls rested)),
  λ same.
      let last = rested_calls rested in
      append_cancel_left last more []
      (sym then ∙ append_cancel_left (made_calls made) rest last (sym are ∙ same) ∙ sym (append-nil last)),
)
