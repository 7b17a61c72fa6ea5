-- Lemmas: a worker's result is in order over every history with which its pass may be closed.
use Rattle.pmd_driver.specs.PmdAccess.QueueMade.{IsSeen}
use Rattle.driver_laws.proofs.Prelude.{Call, DrivesRings, Entry, HasGround, HasLived, IsAlong, IsFalse, IsQuiet}
use Rattle.driver_laws.proofs.Prelude.{IsStopping, Life, List, None, Numbers, Option, PmdFault, Rest, Rxdctl, Some}
use Rattle.driver_laws.proofs.Prelude.{State, TakesOnceOff, Up, Watched, [], ap, append-nil, append_assoc}
use Rattle.driver_laws.proofs.Prelude.{append_cancel_left, arith, around, bytes_of, call_in, call_of, calls_joined}
use Rattle.driver_laws.proofs.Prelude.{calls_of, calls_own, common_steps, delivered, drives_lead, eq-eqb, false}
use Rattle.driver_laws.proofs.Prelude.{halted_of, halves_of, inl, inr, is_step, leads_to, left_accepted, left_handed}
use Rattle.driver_laws.proofs.Prelude.{new_sound, new_state, none_past, refl, rules, same_from_push, sent_since}
use Rattle.driver_laws.proofs.Prelude.{subst, sym, ℕ, ⊎_elim, ◌++◌, ◌∙◌, ◌∷◌, ◌≡◌}
use Rattle.driver_laws.proofs.Closed.{isnt_none}
use Rattle.pmd.proofs.WorkerReported.{calls_from, ground_there, named_below, starts_more}
use Rattle.driver_laws.proofs.{Order.along_before, RingLaws.Alone.new_is_left_alone}
use Rattle.driver_laws.proofs.{Order.along_after, Order.life_of, Prelude.AreSteps, Prelude.AreUp, Prelude.AtPort}
use Rattle.driver_laws.proofs.{Prelude.◌≢◌, Prelude.◌⊎◌, Refused.left_in_order, Shifted.After, Shifted.Shifts}
use Rattle.driver_laws.proofs.{Shifted.rings, Shifted.up_after, StopCalls.stopped_takes, StopCalls.takes_ends}
use Rattle.driver_laws.proofs.{StopCalls.takes_shift, Stopped.over_stop, Stopped.sent_over}
use Rattle.driver_laws.specs.Closed.{UpTo}
use Rattle.pmd.specs.Order.{EndsAreInOrder, IsEndAmong, LeavesJob, given_of, queue_of}
use Rattle.pmd.specs.Points.{JustBefore}
use Rattle.pmd.specs.declared.{ends.WorkerEnd.WorkerEnd, fault.WorkerFault.TheVariants.NoThread, job.Job.Job}
use Rattle.pmd.specs.{Ends.AreEnds, Ends.IsEnd, Lived.HasRun, Starts.Starts}
use Rattle.pmd_driver.specs.NicDevice.declared.event.Event.TheVariants as event
use Rattle.pmd_driver.specs.NicDevice.declared.event.Reply.TheVariants as reply
use Rattle.driver_laws.specs.RingLaws.Delivered as receive
use Rattle.driver_laws.specs.RingLaws.Laws as transmit

-- A driver that ran, from its first event on. The history from that event on is treated as a separate history, before
-- which the driver's pass made no calls.

-- The first call in a list that isn't a device step.
one_first : (xs ys : List Call) (c d : Call) (cs ds : List Call) → AreSteps xs → AreSteps ys → IsFalse (is_step c.event)
    → IsFalse (is_step d.event) → xs ++ c ∷ cs ≡ ys ++ d ∷ ds → c ∷ cs ≡ d ∷ ds
one_first (x ∷ xs) (y ∷ ys) c d cs ds one two none other same =
    one_first xs ys c d cs ds one.1 two.1 none other (cc)
one_first [] [] c d cs ds one two none other same = same
one_first xs ys c d cs ds one two none other same = grind (arith, common_steps)

module _ (w : Watched) (origin : State) (h : List Entry) {q : AtPort} {size frame : ℕ} {old : List Call} {a : Numbers}
    {new : List Call} {left : Rest} {late : Option PmdFault} (lived : HasLived q size frame old a new left late)
    (made : calls_of w.pass h ≡ new) where
  -- The first access of its start, after device steps.

  abbrev seen : IsSeen q old lived.lives.up.receive.quiet.0 Rxdctl false
  seen = lived.lives.up.receive.quiet.1

  abbrev steps : List Call
  steps = seen.4.0

  abbrev call : Call
  call = call_of (event.Read q.port seen.0) (reply.Word seen.1)

  -- The later calls of its start, halves and stop keep their properties after any other calls.

  start : Shifts (After q (λ o n. AreUp q size frame o a n lived.lives.fresh) (λ o n y. y.receive.quiet.0))
      lived.lives.up.receive.quiet.0 lived.lives.made
  start = up_after q size frame a lived.lives.fresh old lived.lives.made lived.lives.up

  drove : Shifts (λ o n. DrivesRings o lived.lives.fresh n lived.last) lived.lives.made lived.made
  drove = rings lived.lives.fresh lived.last lived.lives.made lived.made lived.lives.drives

  stop : Shifts (λ o n. TakesOnceOff q o n) lived.made new
  stop = takes_shift q lived.made new
      (stopped_takes q lived.made (halted_of (Up lived.last)) new left late lived.stopped)

  abbrev following : List Call
  following = (start.since ++ drove.since) ++ stop.since

  all : calls_of w.pass h ≡ (old ++ steps) ++ call ∷ following
  all = made ∙ grind (arith, common_steps, start, drove, stop)

  -- The driver's first entry is therefore in the history.
  starts : Starts w.pass old h
  starts = search (rules, around w.pass h (old ++ steps) call following all, seen)

  -- From that entry on.
  module _ (along : IsAlong w origin h) (x : Starts w.pass old h)
      (ground : HasGround w.queue q frame (leads_to origin x.before)) where
    abbrev here : State
    here = leads_to origin x.before

    abbrev es : List Entry
    es = x.first ∷ x.following

    calls : calls_of w.pass es ≡ call ∷ following
    calls =
        calls_own w.pass x.first x.following (eq-eqb x.first.pass w.pass x.own)
        ∙ one_first x.steps steps _ call _ following x.stepped seen.4.2 x.event refl
        (append_cancel_left old _ _ (cc (calls_from w.pass old h x, all, append_assoc old steps (call ∷ following))))

    began : (y : AreUp q size frame [] a (call ∷ start.since) lived.lives.fresh) × (y.receive.quiet.0 ≡ call ∷ [])
    began = start.following (call ∷ []) [] (seen.0, seen.1, seen.2, seen.3, ([], refl, tt))

    ground_first : (done rest : List Entry) (e : Entry) → done ++ e ∷ rest ≡ es
        → calls_of w.pass done ++ call_in e ∷ [] ≡ call ∷ [] → HasGround w.queue q frame (leads_to here done)
    ground_first [] rest e both made = ground
    ground_first (d ∷ done) rest e both made = absurd (grind (arith, common_steps, calls_own, x.own, isnt_none))

    abbrev life : Life
    life = life_of
        (record { w = w; origin = here; h = es; q = q; size = size; frame = frame; old = []; a = a })
        (call ∷ start.since) lived.lives.fresh ((call ∷ start.since) ++ drove.since) (halves_of lived.last)
        (record {
          along = along_after w origin x.before es
              (subst (IsAlong w origin) (sym x.all) along);
          up = began.0;
          begins = record { ground = λ done rest e both own made. ground_first done rest e both (made ∙ began.1) };
          since = drives_lead (call ∷ start.since) _ _ _ (drove.following (call ∷ start.since)).apart.drives;
        })

    stopping : IsStopping life (life.made ++ stop.since)
    stopping = search (calls, takes_ends, stop.following life.made)

    lived_in_order : receive.IsPrefixOf (left_handed left) (delivered w.queue here es)
        × transmit.IsPrefixOf (sent_since w.queue here [] es) (bytes_of (left_accepted left))
    lived_in_order =
        let sent = sent_over life _ stopping (stop.following life.made) in
        search (rules, over_stop life _ stopping, sent, lived)

-- A worker's result.

-- The result of one of the jobs.
end_of : (jobs : List Job) (ran : List WorkerEnd) (j : Job) (e : WorkerEnd) → AreEnds jobs ran
    → IsEndAmong jobs ran j e → IsEnd j e
end_of (k ∷ jobs) (f ∷ ran) j e are among = grind (arith, end_of jobs ran j e are.1)
end_of jobs ran j e are among = absurd among

module _ (vfs fifo : ℕ) (h : List Entry) (j : Job) (e : WorkerEnd) (ends : IsEnd j e) (x : LeavesJob vfs fifo h j e)
    (u : UpTo e.pass.tag h e.pass.calls) where
  abbrev w : Watched
  w = record { vfs = vfs; pass = e.pass.tag; queue = j.pf_queue }

  abbrev origin : State
  origin = new_state vfs fifo

  -- The device is sound when the driver begins, so port and queue number identify the job's queue there.

  ground : JustBefore vfs fifo e.pass.tag j.pass.calls h (HasGround j.pf_queue (queue_of j) j.frame)
  ground =
      let new = new_sound vfs fifo x.device.0 x.device.1 x.device.2 in
      ground_there w fifo j.pass.calls (given_of j) h new x.events x.begins

  starts_or_none : Starts e.pass.tag j.pass.calls u.done ⊎ ((left_handed e.rest ≡ []) × (left_accepted e.rest ≡ []))
  starts_or_none =
      -- The worker had a thread, or it didn't.
      let threads : (e.fault ≡ Some NoThread) ⊎ (e.fault ≢ Some NoThread) = grind (arith, common_steps) in
      ⊎_elim (λ none. inr (grind (arith, common_steps, ends))) (λ some.
      ⊎_elim (λ x. inl (starts w origin u.done x.3 u.made)) (λ x. inr (x.2.handed, x.2.accepted)) (ends.lived some))
      threads

  module _ (s : Starts e.pass.tag j.pass.calls u.done) where
    abbrev at_first : State
    at_first = leads_to origin s.before

    -- The entry is also the first in the whole history.
    abbrev there : Starts e.pass.tag j.pass.calls h
    there = starts_more e.pass.tag j.pass.calls u.done u.rest h u.all s

    along : IsAlong w origin u.done
    along =
        let small = named_below _ _ j.port j.queue j.pf_queue (ground there).names in
        let new = new_sound vfs fifo x.device.0 x.device.1 x.device.2 in
        along_before w origin u.done u.rest u.all (search (rules, new, new_is_left_alone))

    -- The packets handed out and the frames sent are in order from that entry on.
    abbrev InOrder : Type 0
    InOrder =
        receive.IsPrefixOf (left_handed e.rest) (delivered j.pf_queue at_first (s.first ∷ s.following))
        × transmit.IsPrefixOf (sent_since j.pf_queue at_first [] (s.first ∷ s.following))
        (bytes_of (left_accepted e.rest))

    run_in_order : HasRun (queue_of j) j.size j.frame j.pass.calls j.arena e.pass.calls e.rest e.fault
        → (e.fault ≡ None) ⊎ IsQuiet j.pf_queue (queue_of j) j.frame at_first → InOrder
    run_in_order (inl (worked, late, is, lived)) so =
        lived_in_order w origin u.done lived u.made along s (ground there)
    run_in_order (inr (f, is, never)) (inl none) = cc
    run_in_order (inr (f, is, never)) (inr at) =
        let calls = calls_from e.pass.tag j.pass.calls u.done s in
        left_in_order _ never along s.before s.following s.first s.all s.own s.steps s.stepped s.calls at _ []
        (sym u.made ∙ calls ∙ sym (append-nil _)) calls

    in_order : InOrder
    in_order =
        -- If the worker had no thread, there is no such entry.
        let none : e.fault ≢ Some NoThread = λ none.
        grind (arith, common_steps, isnt_none, none_past, calls_from, ends) in
        run_in_order (ends.lived none) (⊎_elim (λ none. inl none) (λ at. inr (at there)) x.quiet)

pub ends_in_order : EndsAreInOrder
ends_in_order jobs ran are j e among vfs fifo h x u =
    let ends = end_of jobs ran j e are among in
    record {
      none = starts_or_none vfs fifo h j e ends x u;
      handed = λ s. (in_order vfs fifo h j e ends x u s).0;
      sent = λ s. (in_order vfs fifo h j e ends x u s).1;
    }
