-- The halves when both sides of a queue are on: each half has lent only its ring's blocks. The lemmas state what a
-- driver lends after that point, and what it has handed out and sent over its life. They also hold if the history
-- continues, because the beginning of a life is a life too.
use Rattle.pmd_driver.proofs.DeviceLock.Histories.{events_before, events_after, legal_before}
use Rattle.ring_laws.proofs.Alone.{beginning_alone, histories_sound, rest_alone}
use Rattle.driver_laws.proofs.InOrder.{Led, counted_where_up, handed_is_prefix, none_is_all, none_is_all_taken}
use Rattle.driver_laws.proofs.On.{on, on_some, other_lent, ring_lent, switched_sides_agree, switched_sides_go_on}
use Rattle.{driver_laws.proofs.Meeting.harmless_leave_alone, ring_laws.proofs.InOrder.first_sent}
use Rattle.{ring_laws.proofs.InOrder.idle-all}
use Rattle.driver_laws.specs.StartPrelude.{EachRingBlock, ShowsNone, is_ring_block, pieces_in, records_of}
use Rattle.{driver_laws.specs.Histories.IsDriven, ring_laws.specs.Steps.Each, driver_laws.specs.Unused.WentOn}
use Rattle.{driver_laws.proofs.Parts.begun as begun_by, ring_laws.proofs.Kept.each_by}
use Rattle.{driver_laws.specs.Agreeing.AreApart}
use Rattle.pmd_driver.specs.NicDevice.DmaArena.Numbers.{with_free}
use Rattle.pmd_driver.proofs.PmdAccess.Rings.{each_ring_block, ring_block_is}
use Rattle.pmd_driver.proofs.PmdAccess.Rings.{ring_block_out}
use Rattle.pmd_driver.specs.PmdRx.Receive.{at_start}
use Rattle.pmd_driver.proofs.Whole.{all_drawn}
use Rattle.pmd_driver.specs.{Apart.MayLend, PmdAccess.Frames.most_blocks}
use Rattle.driver_laws.proofs.Prelude.{AllOwn, AreOn, AtPort, BeforeLast, Blocks, BothAgree, Call, Course, Dir, Doer}
use Rattle.driver_laws.proofs.Prelude.{DrivesApart, Entry, FindsNone, Halves, HasGround, IsAlong, IsDrawn, IsLife}
use Rattle.driver_laws.proofs.Prelude.{IsPrefixOf, IsReceiveReady, IsSettled, IsTransmitReady, IsTrue, Leads, Life}
use Rattle.driver_laws.proofs.Prelude.{List, Lives, Numbers, OthersHarmless, OwnsSame, Parts, Receive, Receives}
use Rattle.driver_laws.proofs.Prelude.{Running, Sender, State, Watched, [], ap, apart_on, append-nil, arith, bytes_of}
use Rattle.driver_laws.proofs.Prelude.{calls_of, common_steps, delivered, drives_lead, false, first_of, halves_of}
use Rattle.driver_laws.proofs.Prelude.{is_free, is_own, is_own-of_free, leads-append, leads_on, leads_to, led}
use Rattle.driver_laws.proofs.Prelude.{legal_past, lent_by, parts, played_by, receiving_apart, receiving_drives, refl}
use Rattle.driver_laws.proofs.Prelude.{ring_block_among, ring_blocks, rules, sent_in, sent_since, subst, sym}
use Rattle.driver_laws.proofs.Prelude.{times_among, times_in_hand, true, vfs_stays, ℕ, ◌++◌, ◌∙◌, ◌∷◌, ◌≡◌, ◌≢◌}
use Rattle.ring_laws.specs.Delivered as receive

-- Lemmas: blocks that were drawn from an arena were free in it, and no longer are.

pub drawn_gone : (a : Numbers) (ns : List ℕ) (b : Numbers) (n : ℕ) → IsDrawn a ns b → is_free b n ≡ true
    → times_in_hand ns n ≡ 0
drawn_gone a ns b n drawn free = grind (arith, common_steps, append-nil, all_drawn a ns b [])

pub drawn_both : (a : Numbers) (xs : List ℕ) (b : Numbers) (ys : List ℕ) (c : Numbers) → IsDrawn a xs b
    → IsDrawn b ys c → IsDrawn a (xs ++ ys) c
drawn_both a [] b ys c first then = subst (λ (x : Numbers). IsDrawn x ys c) first then
drawn_both a (x ∷ xs) b ys c (here, first) then = (here, drawn_both (with_free a x false) xs b ys c first then)

-- A ring's blocks that were drawn from an arena are no longer free in it.

ring_gone : (a : Numbers) (ring size : ℕ) (b : Numbers) (n : ℕ) → IsDrawn a (ring_blocks ring size) b
    → is_free b n ≡ true → is_ring_block ring size n ≡ false
ring_gone a ring size b n drawn free =
    sym (ring_block_among ring size n)
    ∙ times_among (ring_blocks ring size) n (drawn_gone a (ring_blocks ring size) b n drawn free)

-- When both sides are on, the receive ring is empty.
module _ {q : AtPort} {size frame : ℕ} {old : List Call} {a : Numbers} {new : List Call} {v : Receive} {t : Sender}
    (up : AreOn q size frame old a new v t) where
  abbrev pub first_halves : Halves
  first_halves = record { receive = v; transmit = t }

  each_first : (P : ℕ → Type 0) → EachRingBlock up.receive.ring size P → Each v P
  each_first P is =
      rw (up.receive.fresh)
      (each_by (at_start q.port up.receive.tail up.receive.ring size (most_blocks frame)) P is
      (λ k low. absurd (omega (arith, low))) tt)

  pub halves_apart : AreApart first_halves
  halves_apart n is =
      let gone = ring_gone a up.receive.ring size up.ready_arena n up.receive.prepared.drawn in
      let free = all_drawn up.ready_arena (ring_blocks up.transmit.ring size) up.both_arena []
      up.transmit.prepared.drawn in
      each_first (λ b. b ≢ n) (λ k below same.
      grind (arith, gone, free, append-nil, ring_block_out, ring_block_is up.receive.ring size k below))

-- Lemmas: when both rings have come up, the arena still has the same block numbers. The receive half may lend the
-- blocks that are free at that point.
module _ {q : AtPort} {size frame : ℕ} {old : List Call} {a : Numbers} {ready_made : List Call} {ready_arena : Numbers}
    {both_made : List Call} {both_arena : Numbers} {v : Receive} {t : Sender}
    (receive : IsReceiveReady q size frame old a ready_made ready_arena v)
    (transmit : IsTransmitReady q size frame ready_made ready_arena both_made both_arena t) where
  both_own : OwnsSame a both_arena
  both_own n =
      (all_drawn ready_arena (ring_blocks transmit.ring size) both_arena [] transmit.prepared.drawn).owns n
      ∙ (all_drawn a (ring_blocks receive.ring size) ready_arena [] receive.prepared.drawn).owns n

  -- The transmit ring's blocks aren't among those that are free at that point.
  pub may : (n : ℕ) → is_free both_arena n ≡ true
      → MayLend (is_own a) (record { receive = v; transmit = t }) Receives n
  may n free = grind (arith, both_own, is_own-of_free, ring_gone)

-- Lemmas: after that point, each half lends only blocks of the arena that the other half hasn't lent.
module _ {q : AtPort} {size frame : ℕ} {old : List Call} {a : Numbers} {new : List Call} {r : Running}
    (x : Lives q size frame old a new r) where
  pub fresh_own : OwnsSame a x.fresh.arena
  fresh_own n =
      (all_drawn _ x.up.on.filled.2.blocks x.fresh.arena [] x.up.on.filled.2.drawn).owns n
      ∙ both_own x.up.receive x.up.transmit n

  pub all_apart : DrivesApart (is_own a) x.up.on.mid (first_of q size frame old a new r x) new (halves_of r)
  all_apart =
      apart_on _ _ _ _ _ _ _
      (receiving_apart (is_own a) x.up.both_arena _ _ _ (halves_of x.fresh) (may x.up.receive x.up.transmit)
      x.up.on.plays refl)
      (subst (λ (own : Blocks). DrivesApart own x.made (halves_of x.fresh) new (halves_of r))
      (λ i n. fresh_own n i) x.drives.apart)

-- Both sides of a driver's queue were enabled over a history that leaves the queue alone.
pub record On (c : Course) : Type 0 where
  pub mid : List Call
  pub v : Receive
  pub t : Sender
  pub up : AreOn c.q c.size c.frame c.old c.a mid v t
  pub along : IsAlong c.w c.origin c.h
  pub ground : BeforeLast c.w c.origin c.h up.receive.quiet.0 (HasGround c.w.queue c.q c.frame)

module _ {c : Course} (x : On c) where
  open c use {w, origin, h, q, size, frame, old, a}
  open x use {mid, v, t, up, along, ground}

  abbrev pub first : Halves
  first = first_halves up

  pub some_on : mid ≢ []
  some_on = on_some up along ground

  -- From the point where both sides are on, a history drives the halves.
  module _ {ys : List Call} (p : Parts w.pass h mid ys) where
    pub sides_went_on : WentOn w.queue origin p.front
    sides_went_on =
        switched_sides_go_on w origin h q size frame old a mid v t up along ground p.front p.back p.both p.fronts

    -- The history drives the halves if the doers say correctly which half made each call after that point, and all
    -- other calls are harmless.
    pub driven_by : (doers : List Doer) → AllOwn first doers ys → OthersHarmless doers ys
        → IsDriven w origin p.front p.back first doers
    driven_by doers own harmless =
        let agrees =
        switched_sides_agree w origin h q size frame old a mid v t up along ground p.front p.back p.both p.fronts in
        let one = ring_lent up along ground p.front p.back p.both p.fronts in
        let two = other_lent up along ground p.front p.back p.both p.fronts in
        record {
          along = rw p.both along;
          on = sides_went_on.received;
          up = sides_went_on.receives;
          begun = begun_by w.pass p.front (λ none. some_on (sym p.fronts ∙ none));
          agree = record { receive = agrees.0; transmit = agrees.1; apart = halves_apart up };
          lent =
              rw p.both
              (record {
                receive = each_first up (λ n. IsTrue (lent_by w.pass h n)) (λ k below. (one k below).mine);
                transmit = λ n is.
                    each_ring_block up.transmit.ring size (λ n. IsTrue (lent_by w.pass h n))
                    (λ k below. (two k below).mine) n (grind (arith, common_steps));
              });
          own = subst (AllOwn first doers) (sym p.backs) own;
          others = grind (arith, common_steps, harmless_leave_alone);
        }

-- Both sides were enabled, and calls led the halves on after that.
pub record Ran (c : Course) : Type 0 where
  pub there : On c
  pub open there use *
  pub new : List Call
  pub k : Halves
  pub goes : Leads mid (first there) new k

module _ {c : Course} (x : Ran c) where
  open c use {w, origin, h}
  open x use {mid, k, goes}

  module _ (p : Parts w.pass h mid goes.1) where
    pub driven : IsDriven w origin p.front p.back (first x.there) goes.0
    driven = driven_by x.there p goes.0 goes.3 goes.5

    pub last : played_by (first x.there) goes.0 (calls_of w.pass p.back) ≡ k
    last = ap (played_by (first x.there) goes.0) p.backs ∙ sym goes.4

    abbrev sent : List (List ℕ)
    sent = sent_in w.queue (leads_to origin p.front) p.back

    pub counted : sent_since w.queue origin [] h ≡ sent
    counted = search (rules, counted_where_up, driven, sides_went_on x.there p)

  -- The pass made exactly these calls in the history.
  module _ (made : calls_of w.pass h ≡ x.new) where
    pub in_parts : Parts w.pass h mid goes.1
    in_parts = parts w.pass h mid goes.1 (made ∙ goes.2)

    abbrev start : State
    start = leads_to origin in_parts.front

    -- At this point, the device and the driver agree, and both sides are up.
    pub ends : Led w (lent_by w.pass h) start [] [] in_parts.back k
    ends =
        let is = led w origin in_parts.front in_parts.back (first x.there) goes.0 (driven in_parts) in
        grind (arith, is, last in_parts)

    pub there_is : leads_to start in_parts.back ≡ leads_to origin h
    there_is = sym (leads-append origin in_parts.front in_parts.back) ∙ ap (leads_to origin) in_parts.both

    pub agree : BothAgree w.queue (leads_to origin h) (pieces_in w.queue start in_parts.back)
        (sent_since w.queue origin [] h) k
    agree = rw (← there_is, counted in_parts) ends.both

    pub settled : (dir : Dir) → IsSettled dir w.queue (leads_to origin h)
    settled dir =
        let up = sides_went_on x.there in_parts in
        grind (arith, ends.receives up.receives, ends.sends up.sends, there_is)

    pub handed : receive.IsPrefixOf k.receive.handed (delivered w.queue origin h)
    handed = grind (arith, handed_is_prefix w origin _ _ _ _ (driven in_parts), last in_parts)

    pub taken : ShowsNone (leads_to origin h) k.receive
        → k.receive.handed ++ records_of k.receive.whole ≡ delivered w.queue origin h
    taken = grind (arith, none_is_all_taken w origin _ _ _ _ (driven in_parts), last in_parts)

    pub none : FindsNone (leads_to origin h) k.receive → k.receive.handed ≡ delivered w.queue origin h
    none = grind (arith, none_is_all w origin _ _ _ _ (driven in_parts), last in_parts)

    pub sent_first : IsPrefixOf (sent_since w.queue origin [] h) (bytes_of k.transmit.accepted)
    sent_first = first_sent _ w.queue _ k.transmit agree.transmit

    pub idle : k.transmit.outstanding ≡ [] → bytes_of k.transmit.accepted ≡ sent_since w.queue origin [] h
    idle empty = idle-all _ w.queue _ k.transmit agree.transmit empty

-- Lemmas: in a life, both sides were enabled and calls led the halves on in this way.

-- Both sides of a driver's queue were enabled this way.
abbrev pub on_of : {c : Course} {mid : List Call} {v : Receive} {t : Sender}
    (up : AreOn c.q c.size c.frame c.old c.a mid v t) → IsAlong c.w c.origin c.h
    → BeforeLast c.w c.origin c.h up.receive.quiet.0 (HasGround c.w.queue c.q c.frame) → On c
on_of {mid = mid} {v = v} {t = t} up along ground =
    record { mid = mid; v = v; t = t; up = up; along = along; ground = ground }

-- The life that the given calls form.
abbrev pub life_of : (c : Course) (started : List Call) (r : Running) (made : List Call) (k : Halves)
    → IsLife c started r made k → Life
life_of c started r made k is = record { course = c; started = started; r = r; made = made; k = k; is = is }

module _ (x : Life) where
  open x use {w, origin, h, q, size, frame, old, a, started, r, k, is}

  abbrev pub begun : On x.course
  begun = on_of (on is.up is.along is.begins) is.along is.begins.ground

  pub whole : Leads is.up.on.mid (first begun) x.made k
  whole = search (rules, leads_on, drives_lead, receiving_drives)

  abbrev pub ran : Ran x.course
  ran = record { there = begun; new = x.made; k = k; goes = whole }

-- Lemmas about the beginning of a history.

module _ (w : Watched) (origin : State) {h : List Entry} (before rest : List Entry) (all : before ++ rest ≡ h) where
  pub along_before : IsAlong w origin h → IsAlong w origin before
  along_before x =
      search (rules, subst (IsAlong w origin) (sym all) x, events_before, legal_before, beginning_alone)

  -- What holds just before a call in the whole history also holds just before that call in the beginning.
  pub last_before : (calls : List Call) (P : State → Type 0) → BeforeLast w origin h calls P
      → BeforeLast w origin before calls P
  last_before calls P at done more e both own is = grind (arith, common_steps)

-- The rest of a history after a part of it is legal and leaves the queue alone, too.
pub along_after : (w : Watched) (origin : State) (front h : List Entry) → IsAlong w origin (front ++ h)
    → IsAlong w (leads_to origin front) h
along_after w origin front h x =
    search (rules, histories_sound, events_before, vfs_stays, events_after, legal_past, rest_alone)

-- If `On` holds for a history, it holds for each beginning of the history.
abbrev pub on_before : {c : Course} (x : On c) (before rest : List Entry) → before ++ rest ≡ c.h
    → On (record c { h = before })
on_before {c = c} x before rest all =
    on_of x.up (along_before c.w c.origin before rest all x.along)
    (last_before c.w c.origin before rest all x.up.receive.quiet.0 (HasGround c.w.queue c.q c.frame) x.ground)

-- A part of a life's history is a life too, if its calls lead to these halves.
abbrev pub life_before : (x : Life) (before rest : List Entry) → before ++ rest ≡ x.h → (calls : List Call) (k : Halves)
    → Leads x.started (halves_of x.r) calls k → Life
life_before x before rest all calls k goes =
    let there = on_before (begun x) before rest all in
    life_of (record x.course { h = before }) x.started x.r calls k
    (record { along = there.along; up = x.is.up; begins = record { ground = there.ground }; since = goes })
