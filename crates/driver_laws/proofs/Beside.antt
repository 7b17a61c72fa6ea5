-- Lemmas about a driver whose author makes any other calls alongside it, over the retagged history.
use Rattle.driver_laws.proofs.Faultless.{FindsDuring, filling_never, found, made, made_is, never_at_fault, none_during}
use Rattle.driver_laws.proofs.Prelude.{AllFollow, AtPort, BeforeLast, BeginsApart, Beside, Bool, Call, DrivesRings}
use Rattle.driver_laws.proofs.Prelude.{Entry, FaultsEarly, FaultsFilling, Follows, GoesOn, HasGround, IsAlong, IsFresh}
use Rattle.driver_laws.proofs.Prelude.{IsLife, IsReportedAlone, IsReportedBy, IsReportedOf, LeadsTo, Life, List, Moment, NoneLent}
use Rattle.driver_laws.proofs.Prelude.{Numbers, Rings, Rxdctl, Sees, State, Reported, Up, WasReported, Watched, WhereUp, []}
use Rattle.driver_laws.proofs.Prelude.{append-nil, append_assoc, append_cancel_left, arith, calls_joined, calls_of}
use Rattle.driver_laws.proofs.Prelude.{common_steps, events-append, events_same, false, halves_of, inl, inr}
use Rattle.driver_laws.proofs.Prelude.{last, leads-append, leads_to, legal-append, legal_same, length, now, own_calls}
use Rattle.driver_laws.proofs.Prelude.{refl, subst, sym, true, ◌++◌, ◌∙◌, ◌∷◌}
use Rattle.driver_laws.proofs.Shifted.{access, early_shift, on_shift, rings, shifted, up_after}
use Rattle.driver_laws.proofs.{Order.life_of, Prelude.ap, Prelude.ℕ, Prelude.◌≡◌, Prelude.◌⊎◌, Reported.goes, Reported.life}
use Rattle.driver_laws.specs.Beside.{AllFollowBy, FollowsBy, IsCalledBeside, IsRetagged, IsReportedAgain, IsReportedBeside, by_own}
use Rattle.driver_laws.specs.Asked.{asked_of}
use Rattle.driver_laws.specs.{Beside.again, BesideApart.IsAloneBeside, BesideApart.IsCalledApart}
use Rattle.driver_laws.specs.{BesideStart.BeginsBeside}
use Rattle.driver_laws.specs.Reported as own
use Rattle.driver_laws.specs.{StartPrelude.entries_in, StartPrelude.marked_entries, Retagged.AreSame}

-- The calls marked as own are the calls of pass 0.
pub own_are : (calls : List Call) (own : List Bool) → calls_of 0 (marked_entries calls own) ≡ own_calls calls own
own_are [] own = refl
own_are (c ∷ calls) [] = refl
own_are (c ∷ calls) (true ∷ own) = ap (λ (l : List Call). c ∷ l) (own_are calls own)
own_are (c ∷ calls) (false ∷ own) = own_are calls own

-- Lemmas: marking the calls as the driver's own or not changes only tags, so the marked entries continue a retagged
-- history.

pub marked_same : (calls : List Call) (own : List Bool) → length own ≡ length calls
    → AreSame (entries_in calls) (marked_entries calls own)
marked_same [] own each = refl
marked_same (c ∷ calls) [] each = absurd (omega (arith, each))
marked_same (c ∷ calls) (is ∷ own) each = grind (arith, common_steps, marked_same calls own (omega (arith, each)))

pub goes_on : {origin : State} {before reported : List Entry} (was : WasReported origin before reported)
    (es : List Entry)
    (calls : List Call) (own : List Bool) (device : State) → LeadsTo (leads_to origin before) es device
    → AreSame es (marked_entries calls own)
    → GoesOn origin before reported es (marked_entries calls own) (own_calls calls own) device
goes_on {origin = origin} {before = before} {reported = reported} was es calls own device began same =
    grind (arith, common_steps, events-append, legal-append, calls_joined, own_are, leads-append)

-- Take a driver whose author makes other calls alongside it. Over the retagged history, what the clauses of the
-- driver's calls report holds with the driver's own calls alone. The same is true of its start and its stop.

-- Each step of a running driver from one moment to the next depends only on the driver's own calls.

drove_again : (a b : Rings) (old new since own : List Call) → new ≡ old ++ since
    → WhereUp a b (λ r s. DrivesRings old r new s) → WhereUp a b (λ r s. DrivesRings own r (own ++ since) s)
drove_again (Up r) (Up s) old new since own is x = shifted (rings r s old new x) since own is
drove_again a b old new since own is x = x

follows_again : (m : Moment) (own : List Call) (n : Moment) (then : List Call) → FollowsBy m own n then
    → Follows (by_own own m) (by_own then n)
follows_again m own n then (inl (goes, since, made, all)) =
    inl (rw all (drove_again m.driver.rings n.driver.rings m.made n.made since own made goes))
follows_again m own n then (inr (halves, all)) = inr (halves, ([], all ∙ sym (append-nil own), tt))

all_again : (m : Moment) (own : List Call) (later : List Moment) (then : List Call) → AllFollowBy m own later then
    → (others : List Moment) × AllFollow (by_own own m) others
    × (last (by_own own m) others ≡ by_own then (last m later))
all_again m own [] then all = ([], tt, ap (λ (l : List Call). by_own l m) (sym all))
all_again m own (n ∷ later) then (next, goes, more) =
    let (others, follow, ends) = all_again n next later then more in
    (by_own next n ∷ others, (follows_again m own n next goes, follow), ends)

-- The driver's own calls are its earlier calls followed by those since its start.
pub own_again : {q : AtPort} {size frame : ℕ} {old : List Call} {a : Numbers} {m : Moment} {later : List Moment}
    {ahead own : List Call} (x : IsReportedBy q size frame old a m later ahead own)
    → IsReportedAgain q size frame old a m later ahead own x
own_again {q = q} {old = old} {m = m} {later = later} {ahead = ahead} {own = own} x =
    let (others, follow, ends) = all_again m (ahead ++ x.start) later own x.since in
    let (at, r, up) = x.started in
    let following = up_after _ _ _ _ _ _ _ up in
    let one = shifted (access q (Sees Rxdctl false) old _ up.receive.quiet.1) x.first ahead x.access in
    let same : x.start ≡ x.first ++ following.since =
    append_cancel_left old x.start (x.first ++ following.since) (grind (arith, common_steps)) in
    let all : (ahead ++ x.first) ++ following.since ≡ ahead ++ x.start =
    rw same (append_assoc ahead x.first following.since) in
    let (there, access) = rw all at (following.following (ahead ++ x.first) ahead one) in
    record {
      others = others;
      reported = record { started = (at, r, there); since = follow };
      access = access;
      ends = ends;
    }

-- The retagged history is legal and leaves the queue alone (`IsAlong`).
pub retagged_along : {w : Watched} {origin : State} {h g : List Entry} → IsRetagged w origin h g → IsAlong w origin g
retagged_along {origin = origin} {h = h} {g = g} x = grind (arith, common_steps, events_same, legal_same)

-- Lemmas about a start that never fails with `DeviceFault` at or after its first event, because none of its blocks is
-- lent just before it.

abbrev apart : BeginsBeside → BeginsApart
apart x = record {
  course = record x.course { h = x.g; old = x.ahead };
  new = x.ahead ++ x.since;
  along = retagged_along x.retagged;
  begins = x.begins;
  others = x.others;
  more = x.more;
  made = x.all;
}

pub never_beside : (x : BeginsBeside)
    → FaultsEarly x.q x.size x.frame x.old x.a x.new ⊎ FaultsFilling x.q x.size x.frame x.old x.a x.new → ⊥
never_beside x (inl f) =
    never_at_fault (apart x) (inl (shifted (early_shift x.q x.size x.frame x.a x.old x.new f) x.since x.ahead x.made))
never_beside x (inr f) =
    let on = on_shift x.q x.size x.frame x.a f.empty f.sender x.old f.mid f.on in
    let following = made (found (apart x) f) in
    let same : x.since ≡ on.since ++ following = append_cancel_left x.old x.since (on.since ++ following)
    (sym x.made ∙ made_is (found (apart x) f) ∙ ap (λ (l : List Call). l ++ following) on.made
    ∙ append_assoc x.old on.since following) in
    filling_never (apart x) f (x.ahead ++ on.since) (on.following x.ahead)
    (ap (λ (l : List Call). x.ahead ++ l) same ∙ sym (append_assoc x.ahead on.since following))

-- Lemmas about a driver that is reported over the retagged history.
module _ (x : Beside) where
  abbrev again_reported : IsReportedAgain x.q x.size x.frame x.old x.a x.m x.later x.ahead x.own x.reported
  again_reported = own_again x.reported

  -- What held just before the driver's first access in the course `x` also holds just before that access as reported
  -- again.
  pub at_access : (P : State → Type 0) → BeforeLast x.w x.origin x.g (x.ahead ++ x.reported.first) P
      → BeforeLast x.w x.origin x.g again_reported.reported.started.2.receive.quiet.0 P
  at_access P = subst (λ (l : List Call). BeforeLast x.w x.origin x.g l P) (sym again_reported.access)

  abbrev pub reported : Reported
  reported = record {
    course = again x;
    m = by_own (x.ahead ++ x.reported.start) x.m;
    later = again_reported.others;
    along = retagged_along x.retagged;
    reported = again_reported.reported;
    begins = record { ground = at_access (HasGround x.w.queue x.q x.frame) x.ground };
  }

  pub same_rings : (now x).driver.rings ≡ (own.now reported).driver.rings
  same_rings = ap (λ (z : Moment). z.driver.rings) (sym again_reported.ends)

  pub rings_up : (now x).driver.rings ≡ Up (goes reported).rings
  rings_up = same_rings ∙ (goes reported).up

  own_made : (own.now reported).made ≡ x.own
  own_made = ap (λ (z : Moment). z.made) again_reported.ends

  pub reported_of : IsReportedBeside x → IsReportedOf reported
  reported_of is = is ∙ sym own_made

  -- The driver's own calls form a life.

  pub is_life : IsLife (again x) (x.ahead ++ x.reported.start) x.reported.started.0 x.own
      (halves_of (goes reported).rings)
  unfolding own_again
  is_life =
      subst (λ (made : List Call).
      IsLife (again x) (x.ahead ++ x.reported.start) x.reported.started.0 made (halves_of (goes reported).rings))
      own_made
      (life reported).is

  abbrev pub own_life : Life
  own_life = life_of (again x) (x.ahead ++ x.reported.start) x.reported.started.0 x.own
      (halves_of (goes reported).rings) is_life

  -- The calls that the driver's next call added follow the driver's own calls so far.
  pub called_after : (n : Moment) (y : IsCalledBeside x n) (added : List Call) → n.made ≡ (now x).made ++ added
      → x.own ++ y.since ≡ x.own ++ added
  called_after n y added is =
      ap (λ (l : List Call). x.own ++ l) (append_cancel_left _ y.since added (sym y.made ∙ is))

  -- No other pass lends the driver's blocks.

  pub alone : IsAloneBeside x → IsReportedAlone reported
  alone y = record {
    reported = reported_of y.reported;
    fresh = at_access (NoneLent (asked_of x.w x.a x.g)) y.fresh;
    others = y.others;
  }

  pub none_beside : (n : Moment) → IsCalledApart x n → FindsDuring (goes reported).rings (now x).made n.made → ⊥
  none_beside n y during =
      none_during reported (at_access (IsFresh x.w.queue x.frame (asked_of x.w x.a x.g)) y.fresh) y.others (now x).made
      n.made
      y.more
      during
      (λ since all.
      y.all
      ∙ (λ i. (sym own_made i ++ append_cancel_left (now x).made y.since since (sym y.made ∙ all) i) ++ y.more))
