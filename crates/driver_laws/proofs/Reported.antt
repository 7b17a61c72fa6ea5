-- Lemmas about a driver call whose last event is a poll that finds no packet complete, or the oldest outstanding packet
-- not done, even if the history continues. What a call reports also holds after other calls, because the calls that it
-- added come after a life. A driver's life as reported by its calls meets the definition of a life, and continues over
-- further reported calls with harmless calls in between.
use Rattle.driver_laws.proofs.Order.{Ran, all_apart, begun, counted, driven, fresh_own, in_parts, last as last_there}
use Rattle.driver_laws.proofs.Prelude.{AllFollow, AllOwn, AtPort, Block, Blocks, Call, Doer, Drives, Drove, Entry}
use Rattle.driver_laws.proofs.Prelude.{Event, FindsNone, Follows, Halves, IsReported, Leads, LeadsApart, Life, List, Lives}
use Rattle.driver_laws.proofs.Prelude.{LooksLast, Moment, Numbers, OwnsSame, Packet, Parts, Receive, Reply, Rings}
use Rattle.driver_laws.proofs.Prelude.{Running, Sender, Reported, Up, WhereUp, [], ap, append-nil, append_assoc}
use Rattle.driver_laws.proofs.Prelude.{append_cancel_left, arith, bytes_of, call_in, call_of, calls_joined, calls_of}
use Rattle.driver_laws.proofs.Prelude.{common_steps, delivered, drives_lead, first_of, halves_of, harmless_apart, inl}
use Rattle.driver_laws.proofs.Prelude.{inr, is_own, last, leads_on, leads_to, legal_past, length, played_by}
use Rattle.driver_laws.proofs.Prelude.{receiving_drives, refl, reply_to, rules, same_from_push, sending_drives}
use Rattle.driver_laws.proofs.Prelude.{sent_since, sized, subst, sym, ℕ, ◌++◌, ◌+◌, ◌<◌, ◌∙◌, ◌∷◌, ◌≡◌, ◌≢◌, ◌≤◌}
use Rattle.driver_laws.proofs.{Order.life_before, Order.life_of, Order.none, Order.ran, Order.whole, Prelude.Adds}
use Rattle.driver_laws.specs.{FullRing.AcceptsNone, FullRing.TellsFull, FullRing.outstanding, Looks.EndsAt, Reported.now}
use Rattle.pmd_driver.{proofs.Both.rings_still, specs.Driver.Driver, specs.PmdRx.Plays.LooksInVain}
use Rattle.driver_laws.proofs.Meeting.{apart_leads_on, driven_apart, harmless_lead, steps_harmless}
use Rattle.{driver_laws.proofs.InOrder.none_is_all_before, driver_laws.proofs.InOrder.waiting_is_not_all}
use Rattle.{ring_laws.proofs.Packets.length-segments}
use Rattle.{driver_laws.specs.Harmless.AddsHarmless, driver_laws.specs.StartPrelude.after_call}
use Rattle.{driver_laws.specs.StartPrelude.parts_for, ring_laws.specs.Laws.FindsWaiting}

-- Lemmas about a later point of a life's history, and the state of the halves (`then`) to which the life's calls led by
-- then.
module _ (x : Life) (late rest : List Entry) (split : late ++ rest ≡ x.h) {then : Halves}
    (goes : Leads x.started (halves_of x.r) (calls_of x.w.pass late) then) where
  open x use {w, origin, k}

  abbrev later : Life
  later = life_before x late rest split (calls_of w.pass late) then goes

  -- Lemmas about an earlier point, after which the halves of the life didn't change.
  module _ (early more : List Entry) (all : early ++ more ≡ late) (is : AddsHarmless x.made (calls_of w.pass early))
    where
      abbrev sooner : Life
      sooner =
          life_before later early more all (calls_of w.pass early) k
          (leads_on x.started x.made (calls_of w.pass early) (halves_of x.r) k k x.is.since
          (harmless_lead x.made (calls_of w.pass early) k is))

      abbrev p : Parts w.pass early x.is.up.on.mid (whole sooner).1
      p = in_parts (ran sooner) refl

      joined : p.front ++ (p.back ++ more) ≡ late
      joined = sym (append_assoc p.front p.back more) ∙ ap (λ (es : List Entry). es ++ more) p.both ∙ all

      -- Both parts begin where the sides were enabled.
      abbrev p_late : Parts w.pass late x.is.up.on.mid (whole later).1
      p_late = record {
        front = p.front;
        back = p.back ++ more;
        both = joined;
        fronts = p.fronts;
        backs = search (rules, append_cancel_left, calls_joined, joined);
      }

      -- Suppose that a poll at the later point finds no packet, and that nothing was handed out since the earlier
      -- point. Then everything delivered before the earlier point had been handed out by then.
      none_sooner : FindsNone (leads_to origin late) then.receive → then.receive.handed ≡ k.receive.handed
          → k.receive.handed ≡ delivered w.queue origin early
      none_sooner finds same =
          let here = last_there (ran sooner) p in
          let there = last_there (ran later) p_late in
          let all = none_is_all_before w origin _ _ more _ _ _ (driven (ran sooner) p) (driven (ran later) p_late)
          (grind (arith, there, joined)) (cc (here, there)) in
          cc (here, p.both, all)

      -- If a poll at the later point finds a packet waiting, some of what the driver had accepted had not yet been sent
      -- at the earlier point.
      waiting_sooner : FindsWaiting (leads_to origin late) then.transmit
          → bytes_of then.transmit.accepted ≢ sent_since w.queue origin [] early
      waiting_sooner finds same =
          let is = waiting_is_not_all w origin _ _ more _ _ (driven (ran later) p_late) in
          grind (arith, is, last_there (ran later) p_late, joined, counted (ran sooner) p)

-- Lemmas: calls that drive the halves on were added, followed by one more call.
module _ (old : List Call) {h k : Halves} {mid new : List Call} (e : Event Block) (reply : Reply Block)
    (drives : Drives old h mid k) (adds : Adds mid new e reply) where
  abbrev pub added : List Call
  added = drives.1 ++ (adds.0 ++ call_of e reply ∷ [])

  pub added_is : new ≡ old ++ added
  added_is = grind (arith, common_steps)

-- Lemmas about an entry of a life's history at which the pass has made the life's calls and some added ones.
module _ (x : Life) (old : List Call) {mid new now : List Call} (e : Event Block) (reply : Reply Block)
    {then : Halves} (drives : Drives old x.k mid then) (adds : Adds mid new e reply) (at : EndsAt x.w.pass x.h now)
    (following : (since : List Call) → new ≡ old ++ since → now ≡ x.made ++ since) where
  abbrev till : List Call
  till = (x.made ++ drives.1) ++ adds.0

  ends : (calls_of x.w.pass at.before ≡ till) × (call_in at.entry ≡ call_of e reply)
  ends =
      same_from_push _ till _ (call_of e reply)
      (at.made ∙ following (added old e reply drives adds) (added_is old e reply drives adds) ∙ simp (append_assoc))

  -- The life continues up to this entry.
  goes_up : Leads x.started (halves_of x.r) (calls_of x.w.pass at.before) then
  goes_up =
      let mine : List Call = x.made ++ drives.1 in
      rw ends.0
      (leads_on _ mine till _ _ then (leads_on _ _ mine _ _ then x.is.since (drives_lead _ _ _ _ (search rules)))
      (harmless_lead mine till then (search (rules, steps_harmless))))

  -- The device sends this reply to the entry's event.
  answered : reply_to (leads_to x.origin at.before) e ≡ reply
  answered =
      grind (arith, common_steps, ends, legal_past x.origin at.before (at.entry ∷ at.following))

-- Lemmas about a poll in vain, and about a poll that finds a packet waiting.

module _ (x : Life) {old new now : List Call} (at : EndsAt x.w.pass x.h now)
    (following : (since : List Call) → new ≡ old ++ since → now ≡ x.made ++ since) where
  open x use {w, origin, k}

  module _ {v : Receive} (y : LooksInVain old k.receive new v) where
    abbrev vain : Drives old k y.mid (record k { receive = v })
    vain = receiving_drives old y.mid k (record k { receive = v }) y.looks refl

    abbrev vain_goes : Leads x.started (halves_of x.r) (calls_of w.pass at.before) (record k { receive = v })
    vain_goes = goes_up x old _ _ vain y.last at following

    finds : FindsNone (leads_to origin at.before) v
    finds = let reply = answered x old _ _ vain y.last at following in search rules

    pub none_before : k.receive.handed ≡ delivered w.queue origin at.before
    none_before = cc (none (ran (later x at.before (at.entry ∷ at.following) at.all vain_goes)) refl finds, y.left)

    pub none_first : (early more : List Entry) → early ++ more ≡ at.before → AddsHarmless x.made (calls_of w.pass early)
        → k.receive.handed ≡ delivered w.queue origin early
    none_first early more all is =
        none_sooner x at.before (at.entry ∷ at.following) at.all vain_goes early more all is finds (cc (y.left))

  pub waiting_first : {v : Sender} → LooksLast old k.transmit new v → (early more : List Entry)
      → early ++ more ≡ at.before → AddsHarmless x.made (calls_of w.pass early)
      → bytes_of k.transmit.accepted ≢ sent_since w.queue origin [] early
  waiting_first y early more all is sent =
      let drives = sending_drives old y.mid k (record k { transmit = y.before }) y.plays refl in
      waiting_sooner x at.before (at.entry ∷ at.following) at.all (goes_up x old _ _ drives y.looks at following) early
      more
      all is
      (search (rules, answered)) (ap bytes_of y.accepted ∙ sent)

-- A running driver's arena has the same block numbers as `a`. Calls led the driver's halves to their present state, and
-- the halves lent only blocks of this arena.
pub record RunsOn (a : Numbers) (old : List Call) (h : Halves) (n : Moment) : Type 0 where
  pub rings : Running
  pub up : n.driver.rings ≡ Up rings
  pub owns : OwnsSame a rings.arena
  pub apart : LeadsApart (is_own a) old h n.made (halves_of rings)

pub up_next : (P : Running → Running → Type 0) (a b : Rings) (r : Running) → a ≡ Up r → WhereUp a b P
    → (s : Running) × (b ≡ Up s) × P r s
up_next P a b r is holds = grind (arith, common_steps)

module _ {a : Numbers} {old : List Call} {h : Halves} where
  runs_next : (m n : Moment) (x : RunsOn a old h m) (s : Running) → n.driver.rings ≡ Up s
      → OwnsSame x.rings.arena s.arena → LeadsApart (is_own a) m.made (halves_of x.rings) n.made (halves_of s)
      → RunsOn a old h n
  runs_next m n x s up owns apart =
      let all = apart_leads_on (is_own a) old m.made n.made h (halves_of x.rings) (halves_of s) x.apart apart in
      search (rules, all)

  follows : (m n : Moment) → RunsOn a old h m → Follows m n → RunsOn a old h n
  follows m n x (inl drove) =
      let (s, up, drives) = up_next _ m.driver.rings n.driver.rings x.rings x.up drove in
      runs_next m n x s up drives.owns
      (subst (λ (own : Blocks). LeadsApart own m.made (halves_of x.rings) n.made (halves_of s)) (λ i k. x.owns k i)
      (driven_apart _ _ _ _ _ drives.apart))
  follows m n x (inr (halves, added)) =
      let (s, up, same) = up_next _ m.driver.rings n.driver.rings x.rings x.up halves in
      runs_next m n x s up same.1
      (grind (arith, common_steps, is_own, harmless_apart))

  all_follow : (m : Moment) (later : List Moment) → RunsOn a old h m → AllFollow m later → RunsOn a old h (last m later)
  all_follow m [] x all = x
  all_follow m (n ∷ later) x all = all_follow n later (follows m n x all.0) all.1

-- A ring of this many slots, at least one of which is vacant.
abbrev HasRoom : ℕ → Sender → Type 0
HasRoom size v = (v.layout.size ≡ size) × (length v.outstanding < size)

-- Lemmas: after the halves' calls, a slot of the ring is still vacant.

played_room : (size : ℕ) (h : Halves) (doers : List Doer) (calls : List Call) → AllOwn h doers calls
    → HasRoom size h.transmit → HasRoom size (played_by h doers calls).transmit
played_room size h [] calls own x = x
played_room size h (d ∷ doers) [] own x = absurd own
played_room size h (d ∷ doers) (n ∷ calls) own x =
    played_room size (after_call h d n) doers calls own.1 (grind (arith, common_steps, length-segments))

module _ {q : AtPort} {size frame : ℕ} {old : List Call} {a : Numbers} {m : Moment} {later : List Moment}
    (x : IsReported q size frame old a m later) where
  -- What the driver's start returned meets the definition of a driver that lives.
  abbrev lives : Lives q size frame old a m.made x.started.0
  lives = record { made = m.made; fresh = x.started.0; up = x.started.2; drives = rings_still m.made x.started.0 }

  pub runs : RunsOn a m.made (halves_of x.started.0) (last m later)
  runs =
      all_follow m later
      (search (rules, ap (λ (p : Driver). p.rings) x.started.1, fresh_own lives, harmless_apart, append-nil)) x.since

  -- The halves were led on from the point where both sides of the queue were on.
  pub led : LeadsApart (is_own a) x.started.2.on.mid (first_of q size frame old a m.made x.started.0 lives)
      (last m later).made (halves_of runs.rings)
  led =
      apart_leads_on _ _ _ _ _ _ _ (driven_apart _ _ _ _ _ (all_apart lives)) runs.apart

  -- The driver's transmit ring has a vacant slot.
  pub room : HasRoom size runs.rings.transmit
  room = search (rules, runs, played_room, halves_of, sized)

-- The life of a reported driver.
module _ (x : Reported) where
  abbrev pub goes : RunsOn x.a x.m.made (halves_of x.reported.started.0) (now x)
  goes = runs x.reported

  abbrev pub life : Life
  life =
      life_of x.course x.m.made x.reported.started.0 (now x).made (halves_of goes.rings)
      (record { along = x.along; up = x.reported.started.2; begins = x.begins; since = goes.apart.leads })

  -- A reported life in which each half lends only blocks that the other half hasn't lent.
  abbrev pub reported_ran : Ran x.course
  reported_ran = record {
    there = begun life;
    new = (now x).made;
    k = halves_of goes.rings;
    goes = (led x.reported).leads;
  }

-- Lemmas: if a driver reports that its ring is full, the ring has no room for the packet. If it accepts none of several
-- packets and returns no fault, the ring has no room for the first of them.

-- Lemmas about a running driver with at least one vacant slot.
module _ (size : ℕ) (m n : Moment) (r : Running) (p : Packet) (is : m.driver.rings ≡ Up r)
    (some : HasRoom size r.transmit) where
  -- If the driver reports that its ring is full, the ring has no room for the packet.
  pub full_lacks : TellsFull m n p
      → (outstanding m.driver.rings < size) × (size ≤ outstanding m.driver.rings + parts_for p.len)
  full_lacks tells = grind (arith, common_steps)

  -- If the driver accepts none of several packets, the ring has no room for the first.
  pub none_lacks : Drove m n → AcceptsNone m n p
      → (outstanding n.driver.rings < size) × (size ≤ outstanding n.driver.rings + parts_for p.len)
  none_lacks drove none = grind (arith, common_steps)
