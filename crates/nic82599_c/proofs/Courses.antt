-- Lemmas about the two loops of `nic_settle`: over the steps of a round, and over the rounds.
use Rattle.std.proofs.Common.{◌≡◌, refl, sym, subst, inl, inr, ◌∙◌, ap, ℕ, suc, ◌≤◌, Bool, true, false, if◌then◌else◌, List, [], ◌∷◌, ◌++◌, length, arith}
use Rattle.std.specs.Prelude.{◌==◌}
use Rattle.std.proofs.lemmas.Bool.{eqb-true}
use Rattle.std.proofs.lemmas.List.{append_assoc, length-take-le}
use Rattle.nic_device.specs.Step.{TakesMemory}
use Rattle.card.specs.Card.{Holdings}
use Rattle.nic82599_c.specs.Settling.{Course, Stops, StopsIn, course, event_of, is_last, is_over, rounds, stepped, walked}
use Rattle.nic82599_c.specs.declared.settling.Step.{Step}
use Rattle.nic82599_c.specs.declared.outcome.Outcome.{Outcome}

-- After settling has ended, no further step runs.
pub walked-ended : (room : ℕ) (c : Course) (steps : List Step) → (c.ended == 0) ≡ false → walked room c steps ≡ c
unfolding walked
walked-ended room c [] ended = refl
walked-ended room c (s ∷ rest) ended = rw ended (walked-ended room c rest ended)

-- The loop over steps.

pub walk-next : (room : ℕ) (before after end : Course) (s : Step) (left rest : List Step) → left ≡ s ∷ rest
    → after ≡ stepped room before s → walked room before left ≡ end → walked room after rest ≡ end
unfolding walked
walk-next room before after end s left rest first is leads =
    ap (λ c. walked room c rest) is ∙ ap (walked room before) (sym first) ∙ leads

pub walk-ended : (room : ℕ) (before after end : Course) (s : Step) (left rest : List Step) → left ≡ s ∷ rest
    → after ≡ stepped room before s → (after.ended == 0) ≡ false → walked room before left ≡ end → after ≡ end
walk-ended room before after end s left rest first is ended leads =
    sym (walked-ended room after rest ended) ∙ walk-next room before after end s left rest first is leads

pub walk-done : (room : ℕ) (before end : Course) (left : List Step) → length left ≡ 0 → walked room before left ≡ end
    → before ≡ end
unfolding walked
walk-done room before end [] none leads = leads
walk-done room before end (s ∷ rest) none leads = absurd (omega (arith, none))

-- The loop over rounds.

pub round-last : (more room : ℕ) (steps : List Step) (before after end : Course) → after ≡ walked room before steps
    → is_last before after ≡ true → rounds (suc more) room steps before ≡ end → after ≡ end
unfolding rounds
round-last more room steps before after end is last leads =
    let e : is_last before (walked room before steps) ≡ true = ap (is_last before) (sym is) ∙ last in
    is ∙ (rw e at leads)

pub round-next : (more room : ℕ) (steps : List Step) (before after end : Course) → after ≡ walked room before steps
    → is_last before after ≡ false → rounds (suc more) room steps before ≡ end → rounds more room steps after ≡ end
unfolding rounds
round-next more room steps before after end is last leads =
    let e : is_last before (walked room before steps) ≡ false = ap (is_last before) (sym is) ∙ last in
    ap (rounds more room steps) is ∙ (rw e at leads)

pub round-none : (room : ℕ) (steps : List Step) (before : Course) → rounds 0 room steps before ≡ record before
    { ended = 38 }
unfolding rounds
round-none room steps before = refl

-- Whether a round is the last, given the number of entries reported before and after it.
pub last-is : (c d : Holdings) (outcome new : List Outcome) (n m ended : ℕ) → n ≤ length outcome → m ≤ length new
    → is_last (course c outcome n 0) (course d new m ended) ≡ is_over ended n m
last-is c d outcome new n m ended small fits = rw (length-take-le n outcome small, length-take-le m new fits) refl

over : (none : Bool) (n m : ℕ) → (if none then n == m else true) ≡ false → none ≡ true
over true n m e = refl
over false n m e = cc

-- A round that isn't the last one doesn't end settling.
pub over-done : (ended n m : ℕ) → is_over ended n m ≡ false → ended ≡ 0
over-done ended n m e = eqb-true ended 0 (over (ended == 0) n m e)

-- Memory runs out.

-- Some steps have run and produced the current progress; the steps in `left` remain.
pub record SoFar (room : ℕ) (steps left : List Step) (before now : Course) : Type 0 where
  pub done : List Step
  pub whole : steps ≡ done ++ left
  pub leads : now ≡ walked room before done

-- Running two lists of steps one after the other is the same as running the combined list.
walked-append : (room : ℕ) (c : Course) (first more : List Step)
    → walked room c (first ++ more) ≡ walked room (walked room c first) more
unfolding walked
walked-append room c [] more = refl
walked-append room c (s ∷ rest) more = walked-append room (stepped room c s) rest more

-- Before the first step, all steps remain.
pub so-far-none : (room : ℕ) (steps : List Step) (c : Course) → SoFar room steps steps c c
unfolding walked
so-far-none room steps c = record { done = []; whole = refl; leads = refl }

pub so-far-next : (room : ℕ) (steps left rest : List Step) (s : Step) (before now after : Course)
    → SoFar room steps left before now → left ≡ s ∷ rest → after ≡ stepped room now s
    → SoFar room steps rest before after
unfolding walked
so-far-next room steps left rest s before now after far first is = record {
  done = far.done ++ s ∷ [];
  whole = far.whole ∙ ap (λ (l : List Step). far.done ++ l) first ∙ sym (append_assoc far.done (s ∷ []) rest);
  leads = is ∙ ap (λ (c : Course). stepped room c s) far.leads ∙ sym (walked-append room before far.done (s ∷ []));
}

-- Memory runs out for the next step.
pub stops-there : (room : ℕ) (steps left rest : List Step) (s : Step) (before now after : Course)
    → SoFar room steps left before now → left ≡ s ∷ rest → after ≡ now → TakesMemory after.card.device (event_of s)
    → Stops room steps before after
stops-there room steps left rest s before now after far first is wants = record {
  done = far.done;
  step = s;
  rest = rest;
  whole = far.whole ∙ ap (λ (l : List Step). far.done ++ l) first;
  leads = is ∙ far.leads;
  wants = wants;
}

-- Settling stops in this round, or in a later round.
pub stops-here : (more room : ℕ) (steps : List Step) (before after : Course) → Stops room steps before after
    → StopsIn (suc more) room steps before after
unfolding StopsIn
stops-here more room steps before after stops = inl stops

pub stops-later : (more room : ℕ) (steps : List Step) (before mid after : Course) → mid ≡ walked room before steps
    → is_last before mid ≡ false → StopsIn more room steps mid after → StopsIn (suc more) room steps before after
unfolding StopsIn
stops-later more room steps before mid after is on stops =
    inr (ap (is_last before) (sym is) ∙ on, subst (λ (c : Course). StopsIn more room steps c after) is stops)
