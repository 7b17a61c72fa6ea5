-- The state after a slot is fetched, and the frame after a transmit step.
use Rattle.std.proofs.Common.{◌≡◌, ◌<◌, ℕ, Bool, cond, List, [], Some, None, Ok, nat_lt, inl, inr, refl, ap, sym, ◌∙◌, subst}
use Rattle.std.specs.Prelude.{slice_set}
use Rattle.std.proofs.lemmas.Bool.{cond-true, cond-false, cases_Bool, ltb-true}
use Rattle.nic_device.specs.TxRing.Fetch.{Outcome as Fetching, command_in, context_outcome, data_outcome}
use Rattle.nic_device.specs.TxRing.Laws.{HasContext, HasData}
use Rattle.nic_device.specs.Transmit.{transmitted, queue_sent, staged_by, sending_of, slot_done}
use Rattle.datasheet_laws.specs.FramePrelude.{Fetched, IsSound, NoQueue, Outcome, State, frame_of, gives, pads, step_of}
use Rattle.datasheet_laws.specs.FramePrelude.{transmit_queue_of}
use Rattle.datasheet_laws.proofs.FramePrelude.{fetched_by, get_or-set_same, takes_slot, transmitted_cases}
use Rattle.datasheet_laws.specs.Transmitting.{SentAfter, FramesGoOutWhole}
use Rattle.datasheet_laws.proofs.GoingOut.{ring, descriptor, second, bytes, Leaves, type-is, end-is, no-end, fetched_after}

module _ (s : State) (queue : ℕ) (f : Fetched) (is : (fetched_by s queue).answer ≡ Ok f) (new : State)
    (staged : staged_by new queue ≡ (fetched_by s queue).staged) where
  context_leaves : HasContext s.memory (ring s queue)
      → fetched_by s queue ≡ context_outcome s.memory (staged_by s queue) (ring s queue) → Leaves s queue f.frame new
  context_leaves context e =
      let none : f.frame ≡ None = cc (ap (λ (o : Fetching). o.answer) e) in
      subst (λ o. Leaves s queue o new) (sym none)
      (inr (sym (type-is (second s queue)) ∙ context.type, staged ∙ ap (λ (o : Fetching). o.staged) e))

  abbrev ends : Bool
  ends = (command_in (descriptor s queue)).end

  abbrev whole : List ℕ
  whole = frame_of (pads s.registers) (bytes s queue)

  data_leaves : HasData s.memory (ring s queue)
      → fetched_by s queue
      ≡ data_outcome s.memory (staged_by s queue) (ring s queue)
      (sending_of s.registers (transmit_queue_of s.registers queue)) (descriptor s queue)
      → Leaves s queue f.frame new
  data_leaves full e =
      let frame : f.frame ≡ cond ends (Some whole) None = cc (ap (λ (o : Fetching). o.answer) e) in
      let left : staged_by new queue ≡ cond ends [] (bytes s queue) = staged ∙ ap (λ (o : Fetching). o.staged) e in
      let type = sym (type-is (second s queue)) ∙ full.type in
      elim (cases_Bool ends) as (λ _. Leaves s queue f.frame new) [
        | inl end ↦
            subst (λ o. Leaves s queue o new) (sym (frame ∙ cond-true ends (Some whole) None end))
            (refl, type, end-is (second s queue) end, left ∙ cond-true ends [] (bytes s queue) end)
        | inr on ↦
            subst (λ o. Leaves s queue o new) (sym (frame ∙ cond-false ends (Some whole) None on))
            (inl (type, no-end (second s queue) on, left ∙ cond-false ends [] (bytes s queue) on))
      ]

  leaves : Leaves s queue f.frame new
  leaves =
      elim (takes_slot _ _ _ _ f is).done as (λ _. Leaves s queue f.frame new) [
        | inl context ↦ context_leaves context.0 context.1
        | inr full ↦ data_leaves full.0 full.2
      ]

abbrev After : State → ℕ → Outcome → Type 0
After s queue o = SentAfter queue o.reply s o.state

-- A queue has the staged bytes that were set for it.
staged_there : (s : State) (queue : ℕ) (bytes : List ℕ) → IsSound s → queue < 128
    → staged_by (record s { staged = slice_set s.staged queue bytes }) queue ≡ bytes
staged_there s queue bytes h small =
    get_or-set_same s.staged queue bytes [] (subst (λ n. queue < n) (sym h.staged.queues) small)

slot_after : (s : State) (queue : ℕ) (f : Fetched) → IsSound s → queue < 128 → (fetched_by s queue).answer ≡ Ok f
    → After s queue (slot_done s queue (Ok f) (fetched_by s queue).memory (fetched_by s queue).staged)
slot_after s queue f h small is =
    let o = slot_done s queue (Ok f) (fetched_by s queue).memory (fetched_by s queue).staged in
    fetched_after s queue o.state f f.frame refl
    (leaves s queue f is o.state (staged_there s queue (fetched_by s queue).staged h small))

-- Queues 128 and above have no steps.
below : (s : State) (queue : ℕ) → (queue < 128 → After s queue (transmitted s queue))
    → After s queue (transmitted s queue)
below s queue small =
    elim (cases_Bool (nat_lt queue 128)) as (λ _. After s queue (transmitted s queue)) [
      | inl few ↦ small (ltb-true queue 128 few)
      | inr past ↦
          subst (λ b. After s queue (cond b (queue_sent s queue (transmit_queue_of s.registers queue))
          (gives NoQueue s))) (sym past) tt
    ]

pub goes_out_whole : FramesGoOutWhole
unfolding step_of
goes_out_whole s h queue =
    below s queue (λ small. transmitted_cases (After s queue) s queue (record {
      none = tt;
      idle = tt;
      fault = λ fault. (staged_there s queue [] h small, refl);
      fetched = λ f is. slot_after s queue f h small is;
    }))
