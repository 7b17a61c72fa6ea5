-- Lemmas: a property that holds just before the driver's first event also holds there for the laws of its driver. What
-- the earlier entries report is true of the device at that point: the queue that port and number identify, and the
-- frame limit.
use Rattle.driver_laws.proofs.{Ground.is_in, Ground.some_where, RingLaws.Limits.settings_reported}
use Rattle.driver_laws.proofs.Prelude.{HasGround, IsSound, List, Mode, Option, Port, Rxdctl, Sees, Some, State, Watched}
use Rattle.driver_laws.proofs.Prelude.{[], ap, append_assoc, arith, call_in, calls_joined, calls_of, calls_own}
use Rattle.driver_laws.proofs.Prelude.{common_steps, events_before, false, leads_to, length, new_state, refl}
use Rattle.driver_laws.proofs.Prelude.{same_from_push, subst, sym, vfs_stays, ℕ, ◌++◌, ◌<◌, ◌∙◌, ◌∷◌, ◌≡◌}
use Rattle.driver_laws.proofs.{Prelude.AreEvents, Prelude.Call, Prelude.Entry, Reached.before_made}
use Rattle.driver_laws.specs.{Prelude.BeforeNext, Numbers.queue_at, Numbers.queue_in}
use Rattle.pmd.specs.Points.{HoldsAtFirst, JustBefore}
use Rattle.pmd.specs.{Beginning.BeginsWell, Starts.Starts, declared.beginning.Given.Given}
use Rattle.pmd_driver.specs.DeviceLock.{Reported.first_settings, Reported.settings_through, declared.reported.Settings.Settings}
use Rattle.pmd.specs.Queues as reported

-- All calls made by a pass, before and after its driver's first call.
pub calls_from : (tag : ℕ) (old : List Call) (h : List Entry) (x : Starts tag old h)
    → calls_of tag h ≡ old ++ (x.steps ++ call_in x.first ∷ calls_of tag x.following)
calls_from tag old h x = grind (arith, common_steps, calls_joined, calls_own)

-- The entry is also the first in a longer history.
abbrev pub starts_more : (tag : ℕ) (old : List Call) (h rest whole : List Entry) → h ++ rest ≡ whole
    → Starts tag old h → Starts tag old whole
starts_more tag old h rest whole all x = record {
  before = x.before;
  first = x.first;
  following = x.following ++ rest;
  all = sym (append_assoc x.before (x.first ∷ x.following) rest) ∙ ap (λ (l : List Entry). l ++ rest) x.all ∙ all;
  own = x.own;
  event = x.event;
  steps = x.steps;
  stepped = x.stepped;
  calls = x.calls;
}

-- A property just before the entry holds just before those calls.
module _ (w : Watched) (fifo : ℕ) (old : List Call) (h : List Entry) (P : State → Type 0)
    (just : JustBefore w.vfs fifo w.pass old h P) where
  before_first : BeforeNext w (new_state w.vfs fifo) h old P
  before_first steps call stepped event done rest e all own is =
      let (calls, same) =
      same_from_push (calls_of w.pass done) (old ++ steps) (call_in e) call
      (is ∙ sym (append_assoc old steps (call ∷ []))) in
      just (grind (arith, common_steps))

  pub holds_at_first : HoldsAtFirst w fifo old h P
  holds_at_first = record {
    first = just;
    next = before_first;
    started = λ q size frame a m later reported.
        before_made q w (new_state w.vfs fifo) h P (Sees Rxdctl false) old _ reported.started.2.receive.quiet.1
        before_first;
  }

-- The settings that a history reports are the device's.

same_in : (queues : Option (ℕ × ℕ)) (number : ℕ) → reported.queue_in queues number ≡ queue_in queues number
same_in queues number = grind (arith, common_steps)

pub named_below : (mode : Mode) (vfs : ℕ) (port : Port) (number queue : ℕ)
    → queue_at mode vfs port number ≡ Some queue → queue < 128
named_below mode vfs port number queue is = grind (arith, common_steps, some_where, is_in)

-- At that point, port and queue number identify the watched queue, and the frame limit matches the frame length that
-- the driver was given.
pub ground_there : (w : Watched) (fifo : ℕ) (old : List Call) (given : Given) (h : List Entry)
    → IsSound (new_state w.vfs fifo) → AreEvents h → BeginsWell w (length old) given h → (x : Starts w.pass old h)
    → HasGround w.queue (record { port = given.port; queue = given.queue }) given.frame
    (leads_to (new_state w.vfs fifo) x.before)
ground_there w fifo old given h sound events well x = let s : State = leads_to (new_state w.vfs fifo) x.before in
    let early = events_before x.before (x.first ∷ x.following) (subst AreEvents (sym x.all) events) in
    let reported : Settings = settings_through w.vfs first_settings x.before in
    let is = settings_reported w.vfs fifo x.before sound early in
    let vfs : s.vfs ≡ w.vfs = vfs_stays (new_state w.vfs fifo) x.before in
    let fits = well old refl x in
    record { names = grind (arith, common_steps, same_in); limit = sym is.1 ∙ fits.limit }
