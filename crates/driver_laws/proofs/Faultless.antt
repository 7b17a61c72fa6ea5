-- Lemmas: after both sides of the driver's queue are on, and so over the driver's whole life, no driver call ends with
-- a reply that no healthy queue sends. Nor does a `tx_burst` get such a reply, whatever it returns. What a call reports
-- also holds after other calls, because the calls that it added come after the driver's. The same holds for a start.
use Rattle.driver_laws.proofs.Laying.{LaysTo, among, past_first, preparing_lays, ready_after, then_some}
use Rattle.driver_laws.proofs.Order.{begun, drawn_both, drawn_gone, driven_by, first, last_before, may, on_before}
use Rattle.driver_laws.proofs.Order.{on_of}
use Rattle.driver_laws.proofs.Prelude.{AllLendApart, AllOwn, AreOn, BeforeLast, BeginsApart, Blocks, Call, Course}
use Rattle.driver_laws.proofs.Prelude.{DeviceFault, DrivesApart, DrivesRings, Entry, FaultsEarly, FaultsFilling, Halves}
use Rattle.driver_laws.proofs.Prelude.{IsDrawn, IsFresh, IsMade, LeadsApart, List, None, Numbers, Option}
use Rattle.driver_laws.proofs.Prelude.{OthersHarmless, Packet, PmdFault, Receive, ReceiveFails, Running, Rx, Rxdctl}
use Rattle.driver_laws.proofs.Prelude.{Sees, Sends, Some, State, Reported, Tx, [], and_parts, ap, apart_on, append-nil}
use Rattle.driver_laws.proofs.Prelude.{append_assoc, arith, both_ways, call_of, calls_joined, calls_of, common_steps}
use Rattle.driver_laws.proofs.Prelude.{false, halves_of, harmless_apart, inl, inr, is_own, is_own-of_free, left, parts}
use Rattle.driver_laws.proofs.Prelude.{played_by, receiving_apart, refl, ring_blocks, rules, subst, sym, times_among}
use Rattle.driver_laws.proofs.Prelude.{true, ℕ, ◌++◌, ◌∙◌, ◌∷◌, ◌≡◌, ◌⊎◌}
use Rattle.driver_laws.proofs.Reported.{added, added_is, goes, led, life}
use Rattle.driver_laws.proofs.Asked.{Both, all_asked, both_true, leads_asked, lends_asked}
use Rattle.driver_laws.proofs.{Lent.known_at, Lent.others_before, Lent.others_after, Lent.short_at, Lent.short_by}
use Rattle.driver_laws.proofs.{Lent.unlent_before, Order.some_on}
use Rattle.driver_laws.specs.{Asked.OthersLendNone, Asked.asked_of, Faultless.IsQuietAndFresh, Faultless.SendsAtFault}
use Rattle.driver_laws.specs.{Faultless.met_by, Reported.now}
use Rattle.driver_laws.{proofs.Order.On, specs.Prelude.Laid, specs.Prelude.Off}
use Rattle.pmd_driver.proofs.Followed.{both_own, others_own, others_played, own_length}
use Rattle.pmd_driver.proofs.{PmdAccess.Steps.steps_both, PmdAccess.Steps.steps_last, PmdRx.Earlier.free_before}
use Rattle.pmd_driver.proofs.Starting.{preparing_drawn}
use Rattle.pmd_driver.specs.{Apart.FindsBy, Halves.OthersStep}
use Rattle.pmd_driver.{proofs.Finding.wrong_by, specs.Bursts.FailedDuring, specs.Bursts.SendsWith}
use Rattle.driver_laws.proofs.{TimedOut.no_fault_is_early, Healthy.no_fault, Reached.before_made}
use Rattle.driver_laws.specs.StartPrelude.{Elsewhere, FindsFault, doers_other, is_neither}
use Rattle.driver_laws.proofs.{AskedAmong.asked_ahead, AskedAmong.asked_past, AskedAmong.asked_last}
use Rattle.driver_laws.proofs.{Parts.begun as begun_by}
use Rattle.driver_laws.specs.{Before.is_asked, FaultlessStart.NoneIsLent, Faults.doers_of}
use Rattle.driver_laws.{proofs.Meeting.harmless_both, proofs.Meeting.others_harmless, specs.Filling.LendsFresh}
use Rattle.std.proofs.{Common.IfErr, Common.IfSome, Common.Result, lemmas.List.Folds.list_any-append}

-- All calls up to the one with the faulty reply, and the half that made each.
module _ {own : Blocks} {on : List Call} {h : Halves} {new : List Call} (f : FindsFault own on h new) where
  abbrev pub made : List Call
  made = added on f.event f.reply f.drives.drives f.adds

  pub made_is : new ≡ on ++ made
  made_is = added_is on f.event f.reply f.drives.drives f.adds

  own_all : AllOwn h (doers_of own on h new f) made
  own_all = grind (arith, common_steps, both_own, others_own, others_played)

  others_step : OthersStep (doers_of own on h new f) made
  others_step =
      let (doers, since, made, own, is, steps) = f.drives.drives in
      steps_both is_neither doers (doers_other f.adds.0 ++ f.doer ∷ []) since
      (f.adds.0 ++ call_of f.event f.reply ∷ [])
      (own_length h doers since own)
      steps
      (steps_last is_neither (Sends Elsewhere) _ _ (call_of f.event f.reply) (grind (arith, common_steps)) f.adds.2)

-- A driver call that ends with a faulty reply, and the calls that lead up to it, together form such a sequence.
pub found_on : {own : Blocks} {old mid new : List Call} {h j : Halves} → DrivesApart own old h mid j
    → FindsFault own mid j new → FindsFault own old h new
found_on drives f = search (rules, apart_on)

-- A sequence of calls that ends with a faulty reply remains one if only the blocks that its calls try to lend count as
-- the driver's own.
abbrev pub found_asked : (own asks : Blocks) {on : List Call} {h : Halves} {new : List Call}
    (f : FindsFault own on h new)
    → ((n : ℕ) → is_asked (made f) n ≡ true → asks n ≡ true) → FindsFault (Both own asks) on h new
found_asked own asks {h = h} f within =
    record {
      mid = f.mid;
      there = f.there;
      doer = f.doer;
      event = f.event;
      reply = f.reply;
      drives =
          record {
            drives = f.drives.drives;
            apart =
                all_asked own asks h f.drives.drives.0 f.drives.drives.1 f.drives.apart
                (λ n is. within n (asked_ahead f.drives.drives.1 _ n is));
          };
      mine = f.mine;
      apart =
          lends_asked own asks f.there f.doer f.event f.apart
          (λ n is.
          within n (asked_past f.drives.drives.1 _ n (asked_last [] f.adds.0 (call_of f.event f.reply) n is)));
      adds = f.adds;
      sick = f.sick;
    }

-- Lemmas about the history after the point where both sides are on, if nobody else lends a block of `own`.
module _ {c : Course} (x : On c) (own : Blocks)
    (fresh : BeforeLast c.w c.origin c.h x.up.receive.quiet.0 (IsFresh c.w.queue c.frame own))
    (others : OthersLendNone c.w.pass own c.h) where
  open c use {w, origin, h, q, frame}

  -- No call gets a faulty reply after the sides were enabled and further calls led the halves on. The driver takes as
  -- many blocks for a packet as its start was given.
  pub no_fault_led_on : {mid old new : List Call} {k : Halves} (led : LeadsApart own x.mid (first x) mid k)
      (f : FindsFault own old k new) (more : List Call) → calls_of w.pass h ≡ (mid ++ made f) ++ more → ⊥
  no_fault_led_on {mid = mid} {old = old} {new = new} led f more is =
      let so = parts w.pass h (mid ++ made f) more is in
      let y = on_before x so.front so.back so.both in
      let none = last_before w origin so.front so.back so.both x.up.receive.quiet.0 (IsFresh w.queue frame own) fresh in
      let spared = others_before w.pass own so.front so.back (subst (OthersLendNone w.pass own) (sym so.both) others) in
      let (doers, since, all, did, played, harmless) = led.leads in
      let p = parts w.pass so.front x.mid (since ++ made f)
      (so.fronts ∙ ap (λ (l : List Call). l ++ made f) all ∙ append_assoc x.mid since (made f)) in
      let then = parts w.pass p.back since (made f) p.backs in
      let fronts = sym then.fronts in
      let rest = calls_of w.pass then.front in
      let (g, mores) =
      subst (λ (j : Halves). (g : FindsFault own old j new) × (calls_of w.pass then.back ≡ made g))
      (played ∙ ap (played_by (first x) doers) fronts) (f, then.backs) in
      let mine = subst (AllOwn (first x) doers) fronts did in
      let back = then.front ++ then.back in
      let both = ap (λ (l : List Entry). p.front ++ l) then.both ∙ p.both in
      let short = short_at y own none p.front back both p.fronts in
      let ends = doers_of own old (played_by (first x) doers rest) new g in
      let backs = calls_joined w.pass then.front then.back ∙ ap (λ (l : List Call). rest ++ l) mores in
      no_fault w origin p.front then.front then.back (first x) doers own old new g mine
      (subst (AllLendApart own (first x) doers) fronts led.apart)
      (made_is g ∙ ap (λ (l : List Call). old ++ l) (sym mores)) (record {
        driven = driven_by y (record { front = p.front; back = back; both = both; fronts = p.fronts; backs = backs })
            (doers ++ ends) (both_own (first x) doers ends rest (made g) mine (own_all g))
            (harmless_both doers ends rest (made g) (own_length (first x) doers rest mine)
            (subst (OthersHarmless doers) fronts harmless) (others_harmless ends (made g) (others_step g)));
        short =
            rw (ap (λ (r : Receive). r.layout.most) x.up.receive.fresh) (short_by w.queue q frame _ short.0 short.1);
        known =
            known_at y own (λ before following e split mine is. (none before following e split mine is).none) spared
            p.front
            back both p.fronts;
        others =
            others_after w.pass own p.front back (subst (OthersLendNone w.pass own) (sym both) spared)
            (begun_by w.pass p.front (λ none. some_on y (sym p.fronts ∙ none)));
      })

-- During a burst, both halves were driven on to a call with a reply that no healthy queue returns. This includes a
-- burst that ends with such a call.
abbrev pub FindsDuring : Running → List Call → List Call → Type 0
FindsDuring r old new =
    (mid : List Call) × (later : List Call) × (new ≡ mid ++ later)
    × FindsFault (is_own r.arena) old (halves_of r) mid

burst_finds : (failed : Option PmdFault) (given left : List Packet) (result : Result ℕ PmdFault)
    (old mid new : List Call) (r there s : Running) → DrivesRings old r mid there
    → IfErr result (λ f. FindsBy f (is_own r.arena) old (halves_of r) new)
    → (x : SendsWith failed given left result mid there new s)
    → met_by failed given left result mid there new s x ≡ Some DeviceFault → FindsDuring r old new
burst_finds None given left result old mid new r there s drives finds x is =
    let (upto, later, both, f) =
    subst (λ (met : Option PmdFault). IfSome met (λ g. FailedDuring g (is_own there.arena) mid (halves_of there) new))
    is x.during in
    let mine = subst (λ (own : Blocks). FindsFault own mid (halves_of there) upto) (λ i k. drives.owns k i) f in
    (upto, later, both, found_on drives.apart mine)
burst_finds (Some f) given left result old mid new r there s drives finds x is = grind (arith, common_steps)

-- Lemmas: a driver call after a driver's life doesn't end with a faulty reply.
module _ (x : Reported)
    (fresh :
    BeforeLast x.w x.origin x.h x.reported.started.2.receive.quiet.0 (IsFresh x.w.queue x.frame (asked_of x.w x.a x.h)))
    (others : OthersLendNone x.w.pass (asked_of x.w x.a x.h) x.h) where
  open x use {w, h, a}

  pub none_during : (old new more : List Call) → FindsDuring (goes x).rings old new
      → ((since : List Call) → new ≡ old ++ since → calls_of w.pass h ≡ ((now x).made ++ since) ++ more) → ⊥
  none_during old new more (mid, later, both, found) is =
      let f =
      subst (λ (own : Blocks). FindsFault own old (halves_of (goes x).rings) mid) (λ i k. (goes x).owns k i) found
      in
      let asks : Blocks = is_asked (calls_of w.pass h) in
      let all : calls_of w.pass h ≡ ((now x).made ++ made f) ++ (later ++ more) =
      is (made f ++ later) (both ∙ ap (λ (l : List Call). l ++ later) (made_is f) ∙ append_assoc old (made f) later)
      ∙ simp append_assoc in
      let reported : (n : ℕ) → is_asked (((now x).made ++ made f) ++ (later ++ more)) n ≡ true → asks n ≡ true = λ n is.
      subst (λ (l : List Call). is_asked l n ≡ true) (sym all) is in
      let leads = (led x.reported).leads in
      no_fault_led_on (begun (life x)) (Both (is_own a) asks) fresh others
      (leads_asked (is_own a) asks (led x.reported) (λ n is.
      reported n (asked_ahead ((now x).made ++ made f) (later ++ more) n (asked_ahead (now x).made (made f) n
      (subst (λ (l : List Call). is_asked l n ≡ true) (sym leads.2)
      (asked_past x.reported.started.2.on.mid leads.1 n is))))))
      (found_asked (is_own a) asks f
      (λ n is.
      reported n (asked_ahead ((now x).made ++ made f) (later ++ more) n (asked_past (now x).made (made f) n is))))
      (later ++ more) all

pub burst_during : (r s : Running) (old new : List Call) → SendsAtFault old r new s → FindsDuring r old new
burst_during r s old new (vacant, given, left, result, x, is) =
    burst_finds x.failed given left result old x.made new r x.there s x.drives x.finds x.sends is

-- Lemmas: no start fails with `DeviceFault` while it fills its receive ring, nor before that. If a start fails before
-- both sides are on, none of the blocks that are free in the arena at that point is lent.

module _ (x : BeginsApart) where
  open x use {w, origin, h, q, size, frame, old, a, new}

  abbrev own : Blocks
  own = asked_of w a h

  abbrev AtFirst : State → Type 0
  AtFirst = IsQuietAndFresh w.queue q frame own

  -- The pass tries to lend each block that the calls of the start try to lend.
  new_asked : (n : ℕ) → is_asked new n ≡ true → is_asked (calls_of w.pass h) n ≡ true
  new_asked n is = subst (λ (l : List Call). is_asked l n ≡ true) (sym x.made) (asked_ahead new x.more n is)

  -- After the first access, none of the blocks left in the arena that the calls try to lend is lent just before the
  -- last call.
  undrawn : (b : Numbers) (ns : List ℕ) (first : List Call) → IsMade q old first (Sees Rxdctl false) → IsDrawn a ns b
      → (last : Laid) × LaysTo q size (among ns) Off first new last → NoneIsLent w origin h new b
  undrawn b ns first begins drawn (last, lays) number free asked =
      unlent_before w origin h q size old first x.along own (among ns) begins
      (λ done rest e both own is.
      (before_made q w origin h AtFirst (Sees Rxdctl false) old first begins x.begins done rest e both own is).1.none)
      x.others Off last new lays number
      (both_true (is_own a number) (is_asked (calls_of w.pass h) number)
      (is_own-of_free a number (free_before a ns b drawn number free)) (new_asked number asked))
      (λ is. both_ways (among ns number) (times_among ns number (drawn_gone a ns b number drawn free)) is)

  -- No start fails before both sides are on, whatever its arena.
  early_never : (b : Numbers) (early : FaultsEarly q size frame old b new)
      → LendsFresh w origin h q size frame old b new early → ⊥
  early_never b early fresh =
      let p = parts w.pass h new x.more x.made in
      no_fault_is_early w q origin h size frame old b new x.along
      (λ before c steps apart done rest e all own is. (x.begins before c steps apart done rest e all own is).0) early
      fresh p.front p.back p.both p.fronts

  -- Preparing the receive ring never fails with `DeviceFault`. If it has lent no block, an arena without free blocks
  -- would give the same result.
  receive_never : (b : Numbers) (out : List ℕ) → ReceiveFails DeviceFault q size old a new b out → ⊥
  receive_never b out (inl (stops, same, empty)) =
      let none : Numbers = record a { free = [] } in
      early_never none (inl (record { arena = none; out = []; fails = inl (stops, refl, refl) }))
      (λ number free asked. absurd (both_ways false refl (and_parts _ _ free).1))
  receive_never b out (inr (mid, made, fails)) =
      early_never a (inl (record { arena = b; out = out; fails = inr (mid, made, fails) }))
      (undrawn b out made.0 made.1 (preparing_drawn DeviceFault q Rx size mid a new b out fails)
      (then_some q size (among out) (past_first q size (among out) made.2)
      (preparing_lays q size (among out) DeviceFault Rx out (λ n is. is) fails)))

  -- Lemmas about the slots already filled and the call with a faulty reply, which may also be reported after other
  -- calls.
  module _ {older newer : List Call} (f : FaultsFilling q size frame older a newer) where
    abbrev both_first : Halves
    both_first = record { receive = f.empty; transmit = f.sender }

    pub found : FindsFault (is_own a) f.mid both_first newer
    found =
        let filled : Halves = record { receive = f.fails.ring; transmit = f.sender } in
        let may_first = may f.on.receive f.on.transmit in
        found_on
        (receiving_apart (is_own a) f.on.both_arena f.mid f.fails.mid both_first filled may_first
        (record { plays = f.fails.plays; free = f.fails.free }) refl)
        (wrong_by DeviceFault (is_own a) f.fails.arena f.arena f.fails.mid newer filled f.filled
        (λ n free.
        may_first n (free_before f.on.both_arena f.fails.posts.blocks f.fails.arena f.fails.posts.drawn n free))
        f.fails.fails)

    pub filling_never : (m : List Call) (on : AreOn q size frame old a m f.empty f.sender) → new ≡ m ++ made found → ⊥
    filling_never mid on is =
        let quiet = on.receive.quiet in
        let at = before_made q w origin h AtFirst (Sees Rxdctl false) old quiet.0 quiet.1 x.begins in
        let there : On x.course = on_of on x.along (λ done more e both own is. (at done more e both own is).0.ground)
        in
        let asks : Blocks = is_asked (calls_of w.pass h) in
        no_fault_led_on there own (λ done more e both mine is. (at done more e both mine is).1) x.others
        (harmless_apart own mid mid both_first ([], sym (append-nil mid), tt))
        (found_asked (is_own a) asks found (λ n some.
        new_asked n (subst (λ (l : List Call). is_asked l n ≡ true) (sym is) (asked_past mid (made found) n some))))
        x.more (x.made ∙ ap (λ (l : List Call). l ++ x.more) is)

  pub never_at_fault : FaultsEarly q size frame old a new ⊎ FaultsFilling q size frame old a new → ⊥
  never_at_fault (inl (inl y)) = receive_never y.arena y.out y.fails
  never_at_fault (inl (inr (inl y))) =
      let ring = ring_blocks y.receive.ring size in
      let all : List ℕ = ring ++ y.out in
      early_never a (inr (inl y))
      (undrawn y.arena all y.receive.quiet.0 y.receive.quiet.1
      (grind (arith, common_steps, drawn_both, preparing_drawn))
      (then_some q size (among all)
      (ready_after q size (among all) y.receive (λ n is. grind (arith, common_steps, list_any-append)))
      (preparing_lays q size (among all) DeviceFault Tx y.out (λ n is. grind (arith, common_steps, list_any-append))
      y.fails)))
  never_at_fault (inl (inr (inr y))) = early_never a (inr (inr y)) tt
  never_at_fault (inr f) = filling_never f f.mid f.on (made_is (found f))
