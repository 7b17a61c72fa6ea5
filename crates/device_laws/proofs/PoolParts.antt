-- The frames in the receive list for a pool's queues, and the frames in the list for other queues.
use Rattle.std.proofs.Common.{◌≡◌, ℕ, Bool, List, [], ◌∷◌, refl, ap, sym, ◌∙◌, inl, inr}
use Rattle.std.specs.Prelude.{filter, not}
use Rattle.std.proofs.lemmas.Bool.{cases_Bool, cond-true, cond-false, not_from_true, not_from_false}
use Rattle.device_laws.specs.Prelude.{Mode, Waiting, has_queue, others_waiting}
use Rattle.device_laws.specs.Pool.{waiting_of}

-- Filtering twice: with the same test, and with its opposite.

kept-again : (p : Waiting → Bool) (ws : List Waiting) → filter p (filter p ws) ≡ filter p ws
kept-again p [] = refl
kept-again p (w ∷ ws) =
    elim (cases_Bool (p w)) as (λ _. filter p (filter p (w ∷ ws)) ≡ filter p (w ∷ ws)) [
      | inl t ↦
          let here : filter p (w ∷ ws) ≡ w ∷ filter p ws = cond-true (p w) (w ∷ filter p ws) (filter p ws) t in
          ap (filter p) here ∙ cond-true (p w) (w ∷ filter p (filter p ws)) (filter p (filter p ws)) t
          ∙ ap (λ vs. w ∷ vs) (kept-again p ws) ∙ sym here
      | inr f ↦
          let here : filter p (w ∷ ws) ≡ filter p ws = cond-false (p w) (w ∷ filter p ws) (filter p ws) f in
          ap (filter p) here ∙ kept-again p ws ∙ sym here
    ]

none_kept : (p : Waiting → Bool) (ws : List Waiting) → filter p (filter (λ w. not (p w)) ws) ≡ []
none_kept p [] = refl
none_kept p (w ∷ ws) =
    let q : Waiting → Bool = λ w. not (p w) in
    elim (cases_Bool (p w)) as (λ _. filter p (filter (λ w. not (p w)) (w ∷ ws)) ≡ []) [
      | inl t ↦
          ap (filter p) (cond-false (not (p w)) (w ∷ filter q ws) (filter q ws) (not_from_true (p w) t))
          ∙ none_kept p ws
      | inr f ↦
          ap (filter p) (cond-true (not (p w)) (w ∷ filter q ws) (filter q ws) (not_from_false (p w) f))
          ∙ cond-false (p w) (w ∷ filter p (filter q ws)) (filter p (filter q ws)) f ∙ none_kept p ws
    ]

pub others_again : (mode : Mode) (v : ℕ) (ws : List Waiting)
    → others_waiting mode v (others_waiting mode v ws) ≡ others_waiting mode v ws
others_again mode v ws = kept-again (λ w. not (has_queue mode v w.queue)) ws

pub none_of_the_pool : (mode : Mode) (v : ℕ) (ws : List Waiting) → waiting_of mode v (others_waiting mode v ws) ≡ []
none_of_the_pool mode v ws = none_kept (λ w. has_queue mode v w.queue) ws
