-- The calls that bring up a driver's rings write only registers of its queue and lend only the rings' blocks. If no
-- block of an arena is lent just before the driver's first access, only the rings' blocks are lent when both sides are
-- on, and the waiting frames fit a buffer.
use Rattle.driver_laws.proofs.{Healthy.frames_stay_short, Healthy.lends_is, Healthy.only_pass_lent, Reached.first_seen}
use Rattle.driver_laws.proofs.{Reached.made_some, Parts.Around, Reached.made_keep}
use Rattle.driver_laws.proofs.{Sending.receive_lent as ring_lent_there}
use Rattle.driver_laws.proofs.{AskedAmong.asked_past, AskedAmong.or_more, Parts.begun as begun_by}
use Rattle.driver_laws.specs.Before.{asks_for, is_asked}
use Rattle.{driver_laws.proofs.Healthy.known_along, ring_laws.specs.DeviceLaws.Laws.WritesNoSetting}
use Rattle.{driver_laws.specs.Ending.IsPlain}
use Rattle.driver_laws.{proofs.Sending.sender_lent, specs.Before.AreShort, specs.Healthy.lent_by as halves_lent_by}
use Rattle.driver_laws.proofs.Prelude.{All, AllLendApart, AtCalls, AtPort, BeforeLast, Block, Blocks, Bool, Call}
use Rattle.driver_laws.proofs.Prelude.{Balances, Course, Each, EachInOnePlace, Entry, Event, FitsBlocks, Halves}
use Rattle.driver_laws.proofs.Prelude.{HasGround, IsAlong, IsFresh, IsKept, IsMade, IsTrue, LentIsOut, List, Memory}
use Rattle.driver_laws.proofs.Prelude.{NoneLent, Numbers, OnlyLent, OnlyPassLends, OutIsLent, Reply, Rings, Running}
use Rattle.driver_laws.proofs.Prelude.{Rxdctl, Sees, State, Up, Watched, [], after, among_times, append-nil}
use Rattle.driver_laws.proofs.Prelude.{append_assoc, arena_of, arith, around, both_ways, call_in, call_of, calls_of}
use Rattle.driver_laws.proofs.Prelude.{calls_other, calls_own, cond, eq-eqb, false, ground_kept, halted_of, halves_of}
use Rattle.driver_laws.proofs.Prelude.{has_block, has_lent, inl, inr, is_free, is_out, is_own, leads-append, leads_to}
use Rattle.driver_laws.proofs.Prelude.{left, left-setting, lends, lent_by, list_any, memory_after, most_blocks, named}
use Rattle.driver_laws.proofs.Prelude.{not, or_cases, places_of, plain_keeps, plain_setting, refl, ring_block_among}
use Rattle.driver_laws.proofs.Prelude.{rules, same_from_push, subst, sym, times-append, times_among, times_in_hand}
use Rattle.driver_laws.proofs.Prelude.{zero, ℕ, ⊎_elim, ◌++◌, ◌+◌, ◌==◌, ◌∙◌, ◌∷◌, ◌≤◌, ◌⊎◌}
use Rattle.driver_laws.proofs.{Asked.all_asked, Asked.both_true, Laying.LaysTo, Laying.Steps, Laying.StepsOn}
use Rattle.driver_laws.proofs.{Laying.among, Laying.on_lays, Order.On, Order.agree, Order.along_before}
use Rattle.driver_laws.proofs.{Order.along_after, Order.driven, Order.ends, Order.in_parts, Order.last, Order.some_on}
use Rattle.driver_laws.proofs.{Prelude.IsReportedOf, Prelude.Reported, Prelude.and_parts, Prelude.ap, Prelude.cases_Bool}
use Rattle.driver_laws.proofs.{Prelude.common_steps, Prelude.has_begun, Prelude.lent_in, Prelude.suc, Prelude.true}
use Rattle.driver_laws.proofs.{Prelude.◌&&◌, Prelude.◌≡◌, Reported.goes, Reported.reported_ran}
use Rattle.driver_laws.{proofs.Order.first, proofs.Reported.led, specs.Prelude.Empty, specs.Prelude.Laid, specs.Prelude.Off}
use Rattle.driver_laws.specs.{Asked.OthersLendNone, Asked.asked_of, Reported.now}
use Rattle.std.proofs.lemmas.{Bool.or_left, Bool.or_right, List.Folds.list_any-append}
use Rattle.pmd_driver.specs.NicDevice.declared.event.Event.TheVariants as event
use Rattle.pmd_driver.specs.NicDevice.declared.event.Reply.TheVariants as reply
use Rattle.pmd_driver.specs.PmdRx.Keeping as received
use Rattle.pmd_driver.specs.PmdTx.Leaving as leaving
use Rattle.pmd_driver.specs.PmdTx.Sending as sending

-- If something follows from how an event and its reply lay out the ring, it holds for each call that lays out the ring.

module _ (q : AtPort) (size : ℕ) (lent : Blocks) where
  each_is : (P : Event Block → Reply Block → Type 0)
      → ((l m : Laid) (e : Event Block) (r : Reply Block) → Steps q size lent l e r m → P e r) → (l last : Laid)
      (cs : List Call) → StepsOn q size lent l cs last → Each (λ c. P c.event c.reply) cs
  each_is P of l last [] steps = tt
  each_is P of l last (c ∷ cs) (m, here, more) = (of l m c.event c.reply here, each_is P of m last cs more)

  -- Lemmas: a call that lays out the ring lends only blocks of `lent`, and so does a pass that makes only such calls.

  abbrev LendsThese : Event Block → Reply Block → Type 0
  LendsThese e r = (n : ℕ) → lends e r n ≡ true → lent n ≡ true

  lends_these : (l m : Laid) (e : Event Block) (r : Reply Block) → Steps q size lent l e r m → LendsThese e r
  lends_these l m e r is n some = grind (arith, common_steps, lends_is)

  lent_is : (pass : ℕ) (es : List Entry) (more : List Call)
      → Each (λ c. LendsThese c.event c.reply) (calls_of pass es ++ more) → (n : ℕ) → lent_by pass es n ≡ true
      → lent n ≡ true
  lent_is pass [] more are n is = cc
  lent_is pass (e ∷ es) more are n is = grind (arith, common_steps, calls_own, calls_other, lent_is pass es more)

-- Lemmas about what other passes lend in one part of a history.

module _ (pass : ℕ) (own : Blocks) where
  -- No other pass tries to lend these blocks in the first part of a history.
  pub others_before : (front back : List Entry) → OthersLendNone pass own (front ++ back)
      → OthersLendNone pass own front
  others_before front back none before e following is =
      none before e (following ++ back)
      (ap (λ (l : List Entry). l ++ back) is ∙ append_assoc before (e ∷ following) back)

  begun_more : (front : List Entry) (e : Entry) → has_begun pass front ≡ true → has_begun pass (front ++ e ∷ []) ≡ true
  begun_more [] e begun = cc
  begun_more (f ∷ front) e begun =
      or_more (f.pass == pass) (has_begun pass front) (has_begun pass (front ++ e ∷ [])) (begun_more front e) begun

  begun_at : (front : List Entry) (e : Entry) → (e.pass == pass) ≡ true → has_begun pass (front ++ e ∷ []) ≡ true
  begun_at [] e own = or_left _ _ own
  begun_at (f ∷ front) e own = or_right _ _ (begun_at front e own)

  -- No other pass tries to lend these blocks after an entry of the pass. The same holds for the history that starts at
  -- that entry.

  pub others_after : (front back : List Entry) → OthersLendNone pass own (front ++ back) → has_begun pass front ≡ true
      → OnlyPassLends pass own back
  others_after front [] none begun = tt
  others_after front (e ∷ back) none begun = (
    λ other. none front e back refl begun other,
    others_after (front ++ e ∷ []) back
        (subst (OthersLendNone pass own) (sym (append_assoc front (e ∷ []) back)) none)
        (begun_more front e begun),
  )

  pub others_from : (before : List Entry) (e : Entry) (following : List Entry)
      → OthersLendNone pass own (before ++ e ∷ following) → e.pass ≡ pass → OnlyPassLends pass own (e ∷ following)
  others_from before e following none mine = (
    λ other. absurd (other mine),
    others_after (before ++ e ∷ []) following
        (subst (OthersLendNone pass own) (sym (append_assoc before (e ∷ []) following)) none)
        (begun_at before e (eq-eqb e.pass pass mine)),
  )

-- A list of calls is empty or has a last call.
pub last_or_none : (cs : List Call) → (cs ≡ []) ⊎ ((before : List Call) × (c : Call) × (cs ≡ before ++ c ∷ []))
last_or_none [] = inl refl
last_or_none (d ∷ cs) =
    ⊎_elim (λ none. inr ([], d, λ i. d ∷ none i)) (λ x. inr (d ∷ x.0, x.1, λ i. d ∷ x.2 i)) (last_or_none cs)

-- Lemmas about calls that lay out the ring after the first access.
module _ (w : Watched) (origin : State) (h : List Entry) (q : AtPort) (size : ℕ) (old first : List Call)
    (along : IsAlong w origin h) (own lent : Blocks) (begins : IsMade q old first (Sees Rxdctl false))
    (fresh : BeforeLast w origin h first (NoneLent own)) (others : OthersLendNone w.pass own h) (l last : Laid)
  where
    -- At each point where some of the calls were made, only the rings' blocks are lent.
    lent_at : (new cs more : List Call) → new ≡ first ++ cs → StepsOn q size lent l (cs ++ more) last
        → AtCalls w origin h new (λ s. OnlyLent own lent s.memory)
    lent_at new cs more is steps done rest all calls =
        let (number, word, named, seen, (before, added, none)) = begins in
        let c : Call = call_of (event.Read q.port number) (reply.Word word) in
        let made : (old ++ before) ++ c ∷ [] ≡ first = append_assoc old before (c ∷ []) ∙ sym added in
        let x : Around w.pass done (old ++ before) c cs = grind (arith, common_steps, around) in
        let es : List Entry = x.entry ∷ x.following in
        let here = fresh x.before (x.following ++ rest) x.entry (cc (append_assoc x.before es rest, x.all)) x.own
        (cc (x.made, x.call)) in
        let within = others_before w.pass own done rest (subst (OthersLendNone w.pass own) (sym all) others) in
        let spared = others_from w.pass own x.before x.entry x.following
        (subst (OthersLendNone w.pass own) (sym x.all) within) x.own in
        let there = along_after w origin x.before es (rw x.all (along_before w origin done rest all along)) in
        let then = only_pass_lent w.pass own (λ n. false) (leads_to origin x.before) es there.legal there.events
        spared (λ n is has. absurd (both_ways _ (here n is) has)) in
        let each = each_is q size lent (LendsThese q size lent) (lends_these q size lent) l last (cs ++ more) steps in
        let mine = calls_own w.pass x.entry x.following (eq-eqb x.entry.pass w.pass x.own) in
        rw (← x.all, leads-append origin x.before es)
        (λ n is has.
        lent_is q size lent w.pass es more (rw (mine, x.call, x.later) ((λ n is. cc), each)) n (then n is has))

    -- Just before the last of the calls, a block outside the rings isn't lent.
    pub unlent_before : (new : List Call) → LaysTo q size lent l first new last → (number : ℕ) → IsTrue (own number)
        → (IsTrue (lent number) → ⊥) → BeforeLast w origin h new (λ s. has_block s.memory number ≡ false)
    unlent_before new made number mine not done rest e both own calls =
        ⊎_elim
        (λ none.
        fresh done rest e both own (grind (arith, common_steps, append-nil)) number mine)
        (λ (x : (cs : List Call) × (c : Call) × (made.calls ≡ cs ++ c ∷ [])).
        let (cs, c, is) = x in
        let there = same_from_push (calls_of w.pass done) (first ++ cs) (call_in e) c
        (cc (append_assoc first cs (c ∷ []), made.made)) in
        let lent = lent_at (calls_of w.pass done) cs (c ∷ []) there.0 (rw (← is) made.steps) done (e ∷ rest) both refl
        number mine in
        grind (arith, lent, not))
        (last_or_none made.calls)

-- Frames of this length fit the maximum number of blocks of a packet.
pub short_by : (queue : ℕ) (q : AtPort) (frame : ℕ) (s : State) → HasGround queue q frame s
    → All (FitsBlocks queue (most_blocks frame)) s.waiting → AreShort queue (most_blocks frame) s
short_by queue q frame s g short = grind (arith, common_steps)

-- Lemmas about the point where both sides are on.
module _ {c : Course} (x : On c) (own : Blocks) where
  open c use {w, origin, h, q, frame, old}
  open x use {mid, up, along}

  abbrev quiet_at : List Call
  quiet_at = up.receive.quiet.0

  -- Only the rings' blocks are lent.

  lays : LaysTo q c.size (halves_lent_by (first x)) Off quiet_at mid Empty
  lays =
      on_lays q c.size (halves_lent_by (first x)) up (λ n is. grind (arith, common_steps, ring_block_among, among))
      (λ n is. grind (arith, common_steps, ring_block_among, among))

  pub known_at : BeforeLast w origin h quiet_at (NoneLent own) → OthersLendNone w.pass own h
      → AtCalls w origin h mid (λ s. OnlyLent own (halves_lent_by (first x)) s.memory)
  known_at fresh others =
      lent_at w origin h q c.size old quiet_at along own _ up.receive.quiet.1 fresh others Off Empty mid lays.calls []
      lays.made (rw append-nil lays.steps)

  -- The waiting frames fit the blocks of a packet.

  abbrev Short : State → Type 0
  Short s = HasGround w.queue q frame s × All (FitsBlocks w.queue (most_blocks frame)) s.waiting

  short_next : (s : State) (e : Event Block) → Short s → WritesNoSetting s e → HasGround w.queue q frame (after s e)
      → Short (after s e)
  short_next s e (g, short) none there =
      (there, (frames_stay_short w.queue (most_blocks frame) s e (short_by w.queue q frame s g short) none).waiting)

  short_kept : IsKept w (lent_by w.pass h) Short
  short_kept s e left x = search (rules, short_next, left-setting, ground_kept)

  plain_short : (s : State) (e : Event Block) → IsPlain q e → Short s → Short (after s e)
  plain_short s e plain x = search (rules, short_next, plain_setting, plain_keeps)

  pub short_at : BeforeLast w origin h quiet_at (IsFresh w.queue frame own) → AtCalls w origin h mid Short
  short_at fresh = made_keep Short (IsPlain q) along short_kept (λ s e met made is. plain_short s e is) quiet_at mid (
    lays.calls,
    lays.made,
    each_is q c.size (halves_lent_by (first x)) (λ e r. IsPlain q e)
        (λ l m e r is. grind (arith, common_steps)) Off Empty lays.calls lays.steps,
  )
      (made_some q old quiet_at (Sees Rxdctl false) up.receive.quiet.1)
      (first_seen w q origin h Short along short_kept (λ s number. plain_short s (event.Read q.port number) tt) Rxdctl
      false old quiet_at up.receive.quiet.1
      (λ before following e split mine is.
      (x.ground before following e split mine is, (fresh before following e split mine is).short)))

-- Lemmas: the blocks of an arena that its driver's halves still have in use (that are out) are lent to the device. Each
-- block of the arena is in one place: free in the arena, in hand, or lent to the device.

-- If the device and the driver agree, the blocks that either half has lent are lent to the device. So each block that
-- is out is lent to the device.
pub out_is_lent : OutIsLent
out_is_lent x made =
    let r = reported_ran x in
    let both = agree r made in
    rw ((goes x).up)
    (λ n is.
    ⊎_elim (ring_lent_there _ _ _ r.k.receive both.receive n)
    (sender_lent _ _ _ r.k.transmit both.transmit.0 both.transmit.1 n)
    (or_cases (received.has_lent r.k.receive n) (sending.has_lent r.k.transmit n) is))

-- The pass's calls are those before both sides were enabled, followed by those after that point.
reported_calls : (x : Reported) → IsReportedOf x → calls_of x.w.pass x.h
    ≡ x.reported.started.2.on.mid ++ (reported_ran x).goes.1
reported_calls x made = made ∙ (reported_ran x).goes.2

pub lent_is_out : LentIsOut
lent_is_out x y =
    let asks : Blocks = is_asked (calls_of x.w.pass x.h) in
    let own : Blocks = asked_of x.w x.a x.h in
    let r = reported_ran x in
    let p = in_parts r y.reported in
    let apart = all_asked (is_own x.a) asks (first r.there) r.goes.0 r.goes.1 (led x.reported).apart
    (λ n is.
    subst (λ (l : List Call). is_asked l n ≡ true) (sym (reported_calls x y.reported))
    (asked_past x.reported.started.2.on.mid r.goes.1 n is)) in
    let known = known_along x.w x.origin p.front p.back (first r.there) r.goes.0 own (driven r p)
    (known_at r.there own y.fresh y.others p.front p.back p.both p.fronts)
    (others_after x.w.pass own p.front p.back (subst (OthersLendNone x.w.pass own) (sym p.both) y.others)
    (begun_by x.w.pass p.front (λ none. some_on r.there (sym p.fronts ∙ none))))
    (subst (AllLendApart own (first r.there) r.goes.0) (sym p.backs) apart) in
    grind (arith, known, last r p, leads-append x.origin p.front p.back, (goes x).up)

-- The pass tried to lend each block that it lent.

lends_asks : (e : Event Block) (r : Reply Block) (n : ℕ) → lends e r n ≡ true → asks_for e n ≡ true
lends_asks (event.Lend block) reply.Done n is = is
lends_asks (event.Lend block) r n is = cc
lends_asks e r n is = cc

lent_asked : (pass : ℕ) (h : List Entry) (n : ℕ) → lent_by pass h n ≡ true → is_asked (calls_of pass h) n ≡ true
lent_asked pass [] n is = cc
lent_asked pass (e ∷ h) n is =
    ⊎_elim
    (λ here.
    let own = (and_parts _ _ (and_parts _ _ here).1).0 in
    let asks = lends_asks e.event e.reply n (and_parts _ _ (and_parts _ _ here).1).1 in
    rw (calls_own pass e h own) (or_left (asks_for e.event n) (is_asked (calls_of pass h) n) asks))
    (λ later.
    let asks = lent_asked pass h n later in
    ⊎_elim
    (λ own. rw (calls_own pass e h own) (or_right (asks_for e.event n) (is_asked (calls_of pass h) n) asks))
    (λ other. rw (calls_other pass e h other) asks)
    (cases_Bool (e.pass == pass)))
    (or_cases (lent_in pass e n) (lent_by pass h n) is)

-- A block that is out is one that the driver tried to lend.
out_is_asked : (x : Reported) → IsReportedOf x → (n : ℕ) → is_out (now x).driver.rings n ≡ true
    → is_asked (calls_of x.w.pass x.h) n ≡ true
out_is_asked x made =
    let r = reported_ran x in
    let lent = (ends r made).lent in
    rw ((goes x).up)
    (λ n is.
    lent_asked x.w.pass x.h n
    (⊎_elim (lent.receive n) (lent.transmit n)
    (or_cases (received.has_lent r.k.receive n) (sending.has_lent r.k.transmit n) is)))

-- Lemmas: a block that is out is counted once among the blocks that are out.

abbrev some : ℕ → Bool
some zero = false
some (suc t) = true

counted : (xs : List ℕ) (n t : ℕ) → times_in_hand xs n ≡ t → list_any (λ b. n == b) xs ≡ some t
counted xs n t is = grind (arith, common_steps, times_among, among_times)

abbrev lent : Halves → List ℕ
lent h = received.lent_of h.receive ++ leaving.lent_of h.transmit

lent_counted : (h : Halves) (n : ℕ) → halves_lent_by h n ≡ some (times_in_hand (lent h) n)
lent_counted h n = grind (arith, common_steps, ring_block_among, list_any-append, counted (lent h) n)

-- The number of places that a block is in is the same whether lent blocks are counted by the device's memory, or as
-- those that are out or lent elsewhere.
placed : (f has : Bool) (t k e once : ℕ) → once ≤ 1 → cond f 1 0 + (t + (k + e)) ≡ once
    → cond has 1 0 ≡ cond (some t) 1 0 + e → cond f 1 0 + k + cond has 1 0 ≡ once
placed f has t k e once most same is = grind (arith, common_steps)

module _ (a : Numbers) (outside hand elsewhere : List ℕ) (mem : Memory) (n : ℕ) where
  abbrev InPlace : Rings → Type 0
  InPlace z =
      Balances a outside (halted_of z) (hand ++ elsewhere)
      → cond (has_block mem n) 1 0 ≡ cond (is_out z n) 1 0 + times_in_hand elsewhere n
      → places_of (arena_of z) ((halted_of z).held ++ hand) mem n ≡ cond (is_free a n) 1 0 + times_in_hand outside n

  up_in_place : is_own a n ≡ true → (r : Running) → InPlace (Up r)
  up_in_place own r has same =
      let t = times_in_hand (lent (halves_of r)) n in
      let most : cond (is_free a n) 1 0 + times_in_hand outside n ≤ 1 =
      subst (λ (b : Bool). cond (is_free a n) 1 0 + times_in_hand outside n ≤ cond b 1 0) own (has.once n) in
      let counts : cond (has_block mem n) 1 0 ≡ cond (some t) 1 0 + times_in_hand elsewhere n =
      subst (λ (b : Bool). cond (has_block mem n) 1 0 ≡ cond b 1 0 + times_in_hand elsewhere n)
      (lent_counted (halves_of r) n) same in
      placed (is_free r.arena n) (has_block mem n) t _ (times_in_hand elsewhere n) _ most
      (omega (arith, has.all.each n, times-append)) counts

-- Each block that is lent is out or lent elsewhere.
out_or_elsewhere : (has out asked : Bool) (e : ℕ) → (asked ≡ true → has ≡ out) → (out ≡ true → asked ≡ true)
    → e ≡ cond (has && not asked) 1 0 → cond has 1 0 ≡ cond out 1 0 + e
out_or_elsewhere true true true e same out_asked is = omega (arith, is)
out_or_elsewhere true false true e same out_asked is = let one : true ≡ false = same refl in cc
out_or_elsewhere false true true e same out_asked is = let one : false ≡ true = same refl in cc
out_or_elsewhere false false true e same out_asked is = omega (arith, is)
out_or_elsewhere true true false e same out_asked is = let one : false ≡ true = out_asked refl in cc
out_or_elsewhere true false false e same out_asked is = omega (arith, is)
out_or_elsewhere false true false e same out_asked is = let one : false ≡ true = out_asked refl in cc
out_or_elsewhere false false false e same out_asked is = omega (arith, is)

pub each_in_one_place : EachInOnePlace
each_in_one_place x y outside hand elsewhere has n own counts =
    let mem = memory_after x.origin x.h in
    let asked = is_asked (calls_of x.w.pass x.h) n in
    let same : asked ≡ true → has_block mem n ≡ is_out (now x).driver.rings n = λ is.
    grind (arith, lent_is_out x y n (both_true (is_own x.a n) asked own is), out_is_lent x y.reported n) in
    subst (InPlace x.a outside hand elsewhere mem n) (sym (goes x).up)
    (up_in_place x.a outside hand elsewhere mem n own (goes x).rings) has
    (out_or_elsewhere (has_block mem n) (is_out (now x).driver.rings n) asked (times_in_hand elsewhere n) same
    (out_is_asked x y.reported n) counts)
