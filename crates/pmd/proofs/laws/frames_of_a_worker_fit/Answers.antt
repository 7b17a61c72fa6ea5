-- Proof: no waiting frame is longer than the longest accepted one, as the history's entries report it.
use Rattle.pmd_driver.proofs.NicDevice.Cases.{arrived_cases}
use Rattle.pmd_driver.specs.DeviceLock.{NicDevice.Outcome.Outcome, NicDevice.Step.step_of}
use Rattle.driver_laws.proofs.Prelude.{All, Block, Event, FitsBlocks, Waiting, after, most_blocks, new_state, ◌≤◌}
use Rattle.driver_laws.proofs.Prelude.{State, [], arith, common_steps, leads_to, legal_before, max, refl, sym, ℕ, ◌∷◌}
use Rattle.driver_laws.proofs.{Prelude.Entry, Prelude.IsLegal, Prelude.List, Prelude.length, Prelude.subst}
use Rattle.driver_laws.proofs.RingLaws.Fitting.{all_wait}
use Rattle.pmd.proofs.WorkerReported.{holds_at_first}
use Rattle.pmd.specs.AtFirst.{AllFitBlocks}
use Rattle.std.proofs.lemmas.List.Elements.{All-nil, All-push, All-weaker}
use Rattle.pmd.specs.{Before.known_through, Fitting.let_in_by, Fitting.longest_after, Fitting.longest_let_in}
use Rattle.pmd_driver.specs.NicDevice.declared.event.Event.TheVariants as event

-- A waiting frame is at most this many bytes long.
abbrev IsUpTo : ℕ → Waiting → Type 0
IsUpTo longest w = length w.frame ≤ longest

module _ (longest : ℕ) (s : State) (h : All (IsUpTo longest) s.waiting) where
  -- The same bound, with the frame that is accepted in an event, if any.
  abbrev After : Event Block → Outcome → Type 0
  After e o = All (IsUpTo (max longest (let_in_by e o.reply))) o.state.waiting

  more : (len : ℕ) (ws : List Waiting) → All (IsUpTo longest) ws → All (IsUpTo (max longest len)) ws
  more len ws all = grind (arith, common_steps, All-weaker)

  following : (e : Event Block) → After e (step_of s e)
  unfolding step_of
  following (event.Arrive frame) =
      arrived_cases (After (event.Arrive frame)) s frame (grind (arith, common_steps, All-push, more))
  following e = more 0 _ (all_wait (IsUpTo longest) (λ w n short. short) s h e (λ frame t is. cc))

longest_along : (longest : ℕ) (s : State) (h : List Entry) → IsLegal s h → All (IsUpTo longest) s.waiting
    → All (IsUpTo (known_through longest_after longest h)) (leads_to s h).waiting
longest_along longest s [] legal all = all
longest_along longest s (e ∷ es) legal all =
    longest_along (longest_after longest e) (after s e.event) es legal.1 (rw legal.0 (following longest s all e.event))

pub returns : Rattle.pmd.proofs.laws.frames_of_a_worker_fit.Goals.returns
returns c w fifo old frame h legal fit =
    let new : State = new_state w.vfs fifo in
    let most = most_blocks frame in
    holds_at_first w fifo old h (AllFitBlocks w.queue frame) (λ x.
    let few = fit old refl x in
    All-weaker (IsUpTo (longest_let_in x.before)) (FitsBlocks w.queue most) (λ w len own. omega (arith, len, few)) _
    (longest_along 0 new x.before
    (legal_before new x.before (x.first ∷ x.following) (subst (IsLegal new) (sym x.all) legal)) (All-nil (IsUpTo 0))))
