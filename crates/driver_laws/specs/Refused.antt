-- A driver whose start was refused, and what was sent on its queue during the start and the stop that followed.
use Rattle.std.specs.Prelude.{◌≡◌, List, [], ◌∷◌, ◌++◌}
use Rattle.driver_laws.specs.StartPrelude.{calls_of, leads_to, Call, Entry, left_accepted, left_handed, Rest}
use Rattle.driver_laws.specs.StartPrelude.{StartRefused}
use Rattle.driver_laws.specs.StartPrelude.{AreSteps, delivered, bytes_of, sent_in, sent_since}
use Rattle.driver_laws.specs.Course.{Course}
use Rattle.driver_laws.specs.Prelude.{IsAlong, IsQuiet}
use Rattle.pmd_driver.specs.Life.{NeverLived}
use Rattle.ring_laws.specs.Delivered as receive
use Rattle.ring_laws.specs.Laws as transmit

-- A driver's start was refused over a legal history of a sound device that leaves the queue alone. The history ends at
-- some point during the start or during the stop of a driver that the start returned, or at the end of both.
pub record Refused : Type 0 where
  pub course : Course
  pub open course use *
  pub e : StartRefused
  pub new : List Call
  pub left : Rest
  pub never : NeverLived q size frame old a e new left
  pub along : IsAlong w origin h
  -- The start's first event is the entry `first`, not counting the device steps that the pass made before it. Just
  -- before this entry, the driver begins well, and both sides are off with no enable request pending.
  pub before : List Entry
  pub first : Entry
  pub following : List Entry
  pub split : before ++ first ∷ following ≡ h
  pub own : first.pass ≡ w.pass
  pub steps : List Call
  pub stepped : AreSteps steps
  pub ahead : calls_of w.pass before ≡ old ++ steps
  pub quiet : IsQuiet w.queue q frame (leads_to origin before)
  -- The calls that the start and the stop have made so far (`since`).
  pub since : List Call
  pub rest : List Call
  pub all : new ≡ (old ++ since) ++ rest
  pub calls : calls_of w.pass h ≡ old ++ since

-- Nothing is sent on the queue, starting with the start's first event.
abbrev pub RefusedSendsNothing : Type 0
RefusedSendsNothing = (x : Refused) → sent_in x.w.queue (leads_to x.origin x.before) (x.first ∷ x.following) ≡ []

-- The packets returned as handed out are a prefix of those delivered since the start's first event, counted since the
-- receive side was last enabled. The frames sent since that event, counted since the transmit side was last enabled,
-- are a prefix of those returned as accepted. Both lists of returned packets are empty.
abbrev pub LeftOfRefusedIsPrefix : Type 0
LeftOfRefusedIsPrefix =
    (x : Refused) →
    let s = leads_to x.origin x.before in
    receive.IsPrefixOf (left_handed x.left) (delivered x.w.queue s (x.first ∷ x.following))
    × transmit.IsPrefixOf (sent_since x.w.queue s [] (x.first ∷ x.following)) (bytes_of (left_accepted x.left))
