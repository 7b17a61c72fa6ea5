-- What a worker's result says about every history with which its pass may be closed.
use Rattle.std.specs.Prelude.{[], ◌<◌, ◌∷◌, ◌≡◌, ◌≤◌, ◌⊎◌, List, None, ℕ, length}
use Rattle.driver_laws.specs.{Closed.UpTo, Prelude.IsQuiet}
use Rattle.driver_laws.specs.StartPrelude.{AreEvents, AtPort, Entry, IsLegal, bytes_of, delivered}
use Rattle.driver_laws.specs.StartPrelude.{leads_to, left_accepted, left_handed, new_state, sent_since}
use Rattle.pmd_driver.specs.DeviceLock.Alone.{LeavesAlone}
use Rattle.pmd.specs.{Beginning.BeginsWell, Ends.AreEnds, Points.JustBefore, Starts.Starts}
use Rattle.pmd.specs.declared.beginning.Given.{Given}
use Rattle.pmd.specs.{declared.ends.WorkerEnd.WorkerEnd, declared.job.Job.Job}
use Rattle.driver_laws.specs.RingLaws.Delivered as receive
use Rattle.driver_laws.specs.RingLaws.Laws as transmit

-- The queue of a job, as its port numbers it.
abbrev pub queue_of : Job → AtPort
queue_of j = record { port = j.port; queue = j.queue }

-- What the job's driver is given.
abbrev pub given_of : Job → Given
given_of j = record { port = j.port; queue = j.queue; frame = j.frame }

-- The job is in the list of jobs, and the result is at the same index in the list of results.
abbrev pub IsEndAmong : List Job → List WorkerEnd → Job → WorkerEnd → Type 0
IsEndAmong [] ends j e = ⊥
IsEndAmong (k ∷ jobs) [] j e = ⊥
IsEndAmong (k ∷ jobs) (f ∷ ends) j e = ((j ≡ k) × (e ≡ f)) ⊎ IsEndAmong jobs ends j e

-- A history of a new device, with `vfs` virtual functions and room for `fifo` frames, leaves a job's queue alone, and
-- the job's driver begins well there.
pub record LeavesJob (vfs fifo : ℕ) (h : List Entry) (j : Job) (e : WorkerEnd) : Type 0 where
  -- As `Shared::new` requires.
  pub device : (vfs ≤ 63) × (0 < fifo) × (fifo ≤ 4096)
  -- `history` of the closed device ensures these.
  pub legal : IsLegal (new_state vfs fifo) h
  pub events : AreEvents h
  -- `left_alone` of the closed device ensures this if it is true of the result's pass and the job's queue.
  pub alone : LeavesAlone (record { vfs = vfs; pass = e.pass.tag; queue = j.pf_queue }) h
  -- `begins_well` ensures this if it is true.
  pub begins :
      BeginsWell (record { vfs = vfs; pass = e.pass.tag; queue = j.pf_queue }) (length j.pass.calls) (given_of j) h
  -- The result has no fault, or both sides of the queue are off just before the driver's first entry, with no enable
  -- request pending. `never_asked_on` ensures this too if it is true (`laws::worker_starts_quiet`).
  pub quiet : (e.fault ≡ None) ⊎ JustBefore vfs fifo e.pass.tag j.pass.calls h (IsQuiet j.pf_queue (queue_of j) j.frame)

-- A job's result is in order over this history, up to the point where the result's pass had made exactly its calls.
pub record IsInOrder (vfs fifo : ℕ) (h : List Entry) (j : Job) (e : WorkerEnd) (u : UpTo e.pass.tag h e.pass.calls) :
    Type 0 where
  -- Up to that point, the driver has a first entry in this history, or it handed out and accepted no packet.
  pub none : Starts e.pass.tag j.pass.calls u.done ⊎ ((left_handed e.rest ≡ []) × (left_accepted e.rest ≡ []))
  -- The packets that the result reports as handed out are a prefix of those delivered on the queue from that entry on,
  -- counted since the receive side was enabled.
  pub handed :
      (x : Starts e.pass.tag j.pass.calls u.done)
      → receive.IsPrefixOf (left_handed e.rest)
      (delivered j.pf_queue (leads_to (new_state vfs fifo) x.before) (x.first ∷ x.following))
  -- The frames sent on the queue from that entry on, counted since the transmit side was enabled, are a prefix of those
  -- that the result reports as accepted.
  pub sent :
      (x : Starts e.pass.tag j.pass.calls u.done)
      → transmit.IsPrefixOf (sent_since j.pf_queue (leads_to (new_state vfs fifo) x.before) [] (x.first ∷ x.following))
      (bytes_of (left_accepted e.rest))

-- Take a legal history of a new device that leaves a job's queue alone and in which the job's driver begins well. The
-- job's result is in order over this history, up to each point where the result's pass had made exactly its calls. This
-- requires that the result has no fault, or that both sides of the queue are off just before the driver's first event,
-- with no enable request pending.
abbrev pub AreInOrder : List Job → List WorkerEnd → Type 0
AreInOrder jobs ends =
    (j : Job) (e : WorkerEnd) → IsEndAmong jobs ends j e → (vfs fifo : ℕ) (h : List Entry) → LeavesJob vfs fifo h j e →
    (u : UpTo e.pass.tag h e.pass.calls) → IsInOrder vfs fifo h j e u

-- The results that `run_workers` returns, each the result of its job, are in order.
abbrev pub EndsAreInOrder : Type 0
EndsAreInOrder = (jobs : List Job) (ends : List WorkerEnd) → AreEnds jobs ends → AreInOrder jobs ends
