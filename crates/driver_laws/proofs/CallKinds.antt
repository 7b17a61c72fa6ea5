-- Lemmas about sequences of calls of one kind, with device steps between them. The kinds are the calls of a driver's
-- accesses, successful or failed, the calls that lend its blocks, and the calls of its stop. Other lemmas state which
-- blocks a pass lends with these calls.
use Rattle.driver_laws.proofs.Ground.{IsDriven, words_are_writes, writes_driven}
use Rattle.driver_laws.proofs.StartPrelude.{AllAre, AreMadeOf, AtEntries, Ends, IsAlong, IsEnable, IsEnding}
use Rattle.driver_laws.proofs.StartPrelude.{IsOtherwise}
use Rattle.driver_laws.proofs.StartPrelude.{IsPlain, IsStrayRead, PollsEnd, StopsBy, and_one}
use Rattle.driver_laws.proofs.Reached.{all_before, all_missed, all_received, all_switched, entry_is, steps_are}
use Rattle.driver_laws.specs.StartPrelude.{Access, AreMade, AtPort, Block, Blocks, Call, DeviceFault, Dir}
use Rattle.driver_laws.specs.StartPrelude.{EachRingBlock}
use Rattle.driver_laws.specs.StartPrelude.{Entry, Event, IsMade, IsNumberOf, IsPrepared, IsReceiveReady, IsSwitched}
use Rattle.driver_laws.specs.StartPrelude.{LendsEach, Numbers, PmdFault, Port, Receive, Reply, RowId, Rx, Sees, Sets}
use Rattle.driver_laws.specs.StartPrelude.{StartTimeout, State, SwitchFails, Tx, Watched, blocks_for, both_asked}
use Rattle.driver_laws.specs.StartPrelude.{both_quiet}
use Rattle.driver_laws.specs.StartPrelude.{call_of, enable_row, has_bit, is_driven, is_step, lent_by, missed, polled}
use Rattle.driver_laws.specs.StartPrelude.{receive_polled, ring_blocks, ring_words, zero_block}
use Rattle.driver_laws.specs.Stopping.{Asks, BringingEnds, SwitchedOffAsks, UnswitchedAsks}
use Rattle.driver_laws.{proofs.Parts.around, proofs.Parts.more_some, specs.Ending.Each, specs.Ending.IsAsking}
use Rattle.pmd_driver.specs.PmdAccess.{Home.Bringing, Home.BringsOne, Made.Adds, Made.AddsSome, QueueMade.FailsBy}
use Rattle.std.proofs.Common.{Bool, List, [], ap, append_assoc, arith, false, inl, inr, refl, rules, suc, sym, true}
use Rattle.std.proofs.Common.{zero, ℕ, ◌++◌, ◌+◌, ◌-◌, ◌<◌, ◌∙◌, ◌∷◌, ◌≡◌, ◌≢◌}
use Rattle.std.proofs.lemmas.{Bool.eq-eqb, Bool.or_left, Bool.or_right, Grind.common_steps, List.append-nil}
use Rattle.std.specs.{List.range_with_len, Prelude.IsFalse, Prelude.⊤, Prelude.◌==◌}
use Rattle.pmd_driver.specs.DeviceLock.Alone.{lends}
use Rattle.ring_laws.proofs.Alone.{lent_after}
use Rattle.pmd_driver.specs.NicDevice.declared.event.Event.TheVariants as event
use Rattle.pmd_driver.specs.NicDevice.declared.event.Reply.TheVariants as reply
use Rattle.pmd_driver.specs.PmdAccess.declared.fault.PmdFault.TheVariants as fault

pub each_such : (P Q : Event Block → Type 0) → ((e : Event Block) → P e → Q e) → (cs : List Call)
    → Each (λ c. P c.event) cs → Each (λ c. Q c.event) cs
each_such P Q such [] are = tt
each_such P Q such (c ∷ cs) are = (such c.event are.0, each_such P Q such cs are.1)

module _ (P : Event Block → Type 0) where
  -- Lemmas about calls in two parts.

  each_both : (cs ds : List Call) → Each (λ c. P c.event) cs → Each (λ c. P c.event) ds
      → Each (λ c. P c.event) (cs ++ ds)
  each_both [] ds are more = more
  each_both (c ∷ cs) ds are more = (are.0, each_both cs ds are.1 more)

  pub none_made : (old new : List Call) → new ≡ old → AreMadeOf P old new
  none_made old new e = ([], e ∙ sym (append-nil old), tt)

  pub then_made : (old mid new : List Call) → AreMadeOf P old mid → AreMadeOf P mid new → AreMadeOf P old new
  then_made old mid new (cs, one, are) (ds, two, more) = grind (arith, common_steps)

  pub stays_some : (old new : List Call) → AreMadeOf P old new → old ≢ [] → new ≢ []
  stays_some old new (more, is, are) some none = more_some old more some (sym is ∙ none)

  -- Lemmas for a kind that includes all device steps.
  module _ (stepping : (e : Event Block) → is_step e ≡ true → P e) where
    pub adds_made : (old new : List Call) (e : Event Block) (r : Reply Block) → Adds old new e r → P e
        → AreMadeOf P old new
    adds_made old new e r (before, is, steps) own = grind (arith, common_steps, each_both, steps_are)

    pub some_made : (old new : List Call) → AddsSome old new → AreMadeOf P old new
    some_made old new (before, is, steps) = (before, is, steps_are P stepping before steps)

    -- The blocks of a list are lent.
    pub lends_are : ((n : ℕ) → P (event.Lend (zero_block n))) → (ns : List ℕ) (old new : List Call)
        → LendsEach old new ns → AreMadeOf P old new
    lends_are lends [] old new is = none_made old new is
    lends_are lends (n ∷ ns) old new (mid, lent, rest) =
        then_made old mid new (adds_made old mid _ _ lent (lends n)) (lends_are lends ns mid new rest)

-- Lemmas about a kind of events (`P`) that includes device steps and all reads, and about the accesses (`K`) whose
-- writes are of that kind.
module _ (q : AtPort) (P : Event Block → Type 0) (K : Access → Type 0)
    (steps : (e : Event Block) → is_step e ≡ true → P e)
    (reads : (port : Port) (number : ℕ) → P (event.Read port number))
    (writes : (row : RowId) (word number : ℕ) → K (Sets row word) → IsNumberOf q.port row q.queue number
    → P (event.Write q.port number word)) where
  abbrev Are : List Call → List Call → Type 0
  Are old new = AreMadeOf P old new

  made_is : (a : Access) (old new : List Call) → K a → IsMade q old new a → Are old new
  made_is (Sees row on) old new own (number, word, named, is, adds) =
      adds_made P steps old new _ _ adds (reads q.port number)
  made_is (Sets row word) old new own (number, named, adds) =
      adds_made P steps old new _ _ adds (writes row word number own named)

  pub accesses_are : (all : List Access) (old new : List Call) → AllAre K all → AreMade q old new all → Are old new
  accesses_are [] old new own x = none_made P old new x
  accesses_are (a ∷ rest) old new own (mid, here, more) =
      then_made P old mid new (made_is a old mid own.0 here) (accesses_are rest mid new own.1 more)

  -- Lemmas about accesses that fail.

  stray_is : (old new : List Call) (row : RowId) → IsStrayRead q old new row → Are old new
  stray_is old new row (number, word, named, adds) = adds_made P steps old new _ _ adds (reads q.port number)

  otherwise_is : (a : Access) (old new : List Call) → K a → IsOtherwise q old new a → Are old new
  otherwise_is (Sees row on) old new own (inl (number, word, named, is, adds)) =
      adds_made P steps old new _ _ adds (reads q.port number)
  otherwise_is (Sees row on) old new own (inr stray) = stray_is old new row stray
  otherwise_is (Sets row word) old new own (number, reported, named, adds) =
      adds_made P steps old new _ _ adds (writes row word number own named)

  fails_is : (f : PmdFault) (a : Access) (old new : List Call) → K a → FailsBy f q old new a → Are old new
  fails_is f a old new own x = grind (arith, common_steps, otherwise_is, some_made)

  pub stops_are : (f : PmdFault) (all : List Access) (old new : List Call) → AllAre K all → StopsBy f q old new all
      → Are old new
  stops_are f all old new own (done, a, rest, mid, is, made, fails) =
      grind (arith, common_steps, all_before, then_made, accesses_are, fails_is)

  -- Lemmas: the driver requests that both sides be on, or off, and polls both.
  module _ (on : Bool) (sees : (side : Dir) (seen : Bool) → K (Sees (enable_row side) seen))
      (asked : AllAre K (both_asked on)) where
    missed_are : (side : Dir) (count : ℕ) (old new : List Call) → AreMade q old new (missed side on count) → Are old new
    missed_are side count old new made =
        accesses_are (missed side on count) old new (all_missed K on sees side count) made

    polls_are : (f : PmdFault) (side : Dir) (polls : ℕ) (old new : List Call) → PollsEnd f q old new side on polls
        → Are old new
    polls_are StartTimeout side polls old new x = missed_are side polls old new x
    polls_are DeviceFault side polls old new (misses, mid, few, made, stray) =
        then_made P old mid new (missed_are side misses old mid made) (stray_is mid new (enable_row side) stray)
    polls_are (fault.Call refused) side polls old new (misses, mid, few, made, more) =
        then_made P old mid new (missed_are side misses old mid made) (some_made P steps mid new more)
    polls_are other side polls old new x = absurd x

    pub switched_are : (old new : List Call) → IsSwitched q old new on 1000 → Are old new
    switched_are old new (first, second, few, made) =
        accesses_are (receive_polled on first ++ polled Tx on second) old new
        (all_switched K on sees asked first second) made

    pub unswitched_are : (f : PmdFault) (old new : List Call) → SwitchFails f q old new on 1000 → Are old new
    unswitched_are f old new (inl stops) = stops_are f (both_asked on) old new asked stops
    unswitched_are f old new (inr (inl (mid, made, polls))) =
        then_made P old mid new (accesses_are (both_asked on) old mid asked made) (polls_are f Rx 1000 mid new polls)
    unswitched_are f old new (inr (inr (first, mid, few, made, polls))) =
        then_made P old mid new
        (accesses_are (receive_polled on first) old mid (all_received K on sees asked first) made)
        (polls_are f Tx (1000 - first) mid new polls)

-- Lemmas: a starting driver writes only registers of its queue.

step_plain : (q : AtPort) (e : Event Block) → is_step e ≡ true → IsPlain q e
step_plain q e is = grind (arith, common_steps)

pub accesses_plain : (q : AtPort) (all : List Access) (old new : List Call) → AllAre IsDriven all
    → AreMade q old new all → AreMadeOf (IsPlain q) old new
accesses_plain q =
    accesses_are q (IsPlain q) IsDriven (step_plain q) (λ port number. tt)
    (λ row word number own named. (row, refl, own, named))

-- Lemmas: device steps satisfy `IsAsking`, and calls whose events satisfy it are calls of a stop.
module _ (q : AtPort) where
  step_asks : (e : Event Block) → is_step e ≡ true → IsAsking q e
  step_asks e is = grind (arith, common_steps)

  asking_ends : (e : Event Block) → IsAsking q e → IsEnding q e
  asking_ends e asks = grind (arith, common_steps)

  pub step_ends : (e : Event Block) → is_step e ≡ true → IsEnding q e
  step_ends e is = asking_ends e (step_asks e is)

  pub asks_end : (old new : List Call) → Asks q old new → Ends q old new
  asks_end old new (cs, is, are) = (cs, is, each_such (IsAsking q) (IsEnding q) asking_ends cs are)

-- Lemmas about accesses to the enable words that don't request that a side be enabled.

abbrev pub MayAsk : Access → Type 0
MayAsk (Sees row on) = IsEnable row
MayAsk (Sets row word) = IsEnable row × IsFalse (has_bit 25 word)

pub enables : (side : Dir) → IsEnable (enable_row side)
enables side = grind (arith, common_steps)

pub enable_driven : (row : RowId) → IsEnable row → is_driven row ≡ true
enable_driven row is = grind (arith, common_steps)

pub may_asks : (q : AtPort) (row : RowId) (word number : ℕ) → MayAsk (Sets row word)
    → IsNumberOf q.port row q.queue number → IsAsking q (event.Write q.port number word)
may_asks q row word number asks named = search rules

pub asked_may : AllAre MayAsk (both_asked false)
asked_may = ((tt, refl), ((tt, refl), tt))

pub switched_off_asks : SwitchedOffAsks
switched_off_asks q old new x = search (rules, switched_are, step_asks, may_asks, enables, asked_may)

pub unswitched_asks : UnswitchedAsks
unswitched_asks f q old new x = search (rules, unswitched_are, step_asks, may_asks, enables, asked_may)

-- The calls that take a block back are calls of a stop.
taking_ends : (q : AtPort) (s t : Bringing) → BringsOne s t → Ends q s.made t.made
taking_ends q s t (n, first, inl brought) = adds_made (IsEnding q) (step_ends q) s.made t.made _ _ brought.taken.2 tt
taking_ends q s t (n, first, inr missed) = adds_made (IsEnding q) (step_ends q) s.made t.made _ _ missed.taken tt

pub bringing_ends : BringingEnds
bringing_ends q zero s t x = none_made (IsEnding q) s.made t.made (ap (λ (b : Bringing). b.made) x)
bringing_ends q (suc count) s t (mid, some, one) =
    then_made (IsEnding q) s.made mid.made t.made (bringing_ends q count s mid some)
    (taking_ends q mid t one)

-- Lemmas about the blocks of rings that a pass lends.

abbrev pub lending : ℕ → Call
lending ring = call_of (event.Lend (zero_block ring)) reply.Done

-- The call `c` is among those that were made.
pub record Has (c : Call) (calls : List Call) : Type 0 where
  pub before : List Call
  pub following : List Call
  pub all : calls ≡ before ++ c ∷ following

pub has_more : (c : Call) (calls new : List Call) → (more : List Call) × (new ≡ calls ++ more) → Has c calls → Has c new
has_more c calls new (more, is) has = grind (arith, common_steps)

-- The block that the call lends is one of those that the pass lends.
pub record IsLentBy (pass ring : ℕ) (h : List Entry) : Type 0 where
  pub low : ring < 65536
  pub mine : lent_by pass h ring ≡ true

pub lent_along : {w : Watched} {origin : State} {h : List Entry} (number : ℕ) (calls : List Call)
    → IsAlong w origin h → Has (lending number) calls → AtEntries w h calls (λ done. IsLentBy w.pass number h)
lent_along {w = w} {h = h} number calls along has done rest all is =
    let x = around w.pass done has.before (lending number) has.following (is ∙ has.all) in
    let whole : x.before ++ x.entry ∷ (x.following ++ rest) ≡ h =
    cc (append_assoc x.before (x.entry ∷ x.following) rest) in
    let is = entry_is along x.before (x.following ++ rest) x.entry whole in
    let there : IsLentBy w.pass number (x.entry ∷ (x.following ++ rest)) = grind (arith, common_steps, x, is) in
    search (rules, lent_after)

-- If a ring was prepared, calls were made that lent each of its blocks.

run_has : (many first k : ℕ) (old new : List Call) → LendsEach old new (range_with_len first many) → k < many
    → Has (lending (first + k)) new
run_has zero first k old new is below = absurd (omega (arith, below))
run_has (suc many) first zero old new (mid, lent, rest) below =
    let later = lends_are (λ e. ⊤) (λ e is. tt) (λ n. tt) (range_with_len (first + 1) many) mid new rest in
    let at : first ≡ first + 0 = omega arith in
    rw (← at)
    (has_more (lending first) mid new (later.0, later.1) (record {
      before = old ++ lent.0;
      following = [];
      all = lent.1 ∙ sym (append_assoc old lent.0 (lending first ∷ []));
    }))
run_has (suc many) first (suc k) old new (mid, lent, rest) below =
    grind (arith, common_steps, lending, run_has many (first + 1) k mid new rest (omega (arith, below)))

module _ {q : AtPort} {side : Dir} {size : ℕ} {old : List Call} {a : Numbers} {new : List Call} {b : Numbers} {ring : ℕ}
    (x : IsPrepared q side size old a new b ring) where
  pub prepared_has : EachRingBlock ring size (λ n. Has (lending n) new)
  prepared_has k below = run_has (blocks_for size) ring k x.mid new x.lent below

  pub prepared_plain : AreMadeOf (IsPlain q) old new
  prepared_plain =
      let words = ring_words side ring size in
      then_made (IsPlain q) old x.mid new
      (accesses_plain q words old x.mid (writes_driven words (words_are_writes side ring size)) x.words)
      (lends_are (IsPlain q) (step_plain q) (λ n. tt) (ring_blocks ring size) x.mid new x.lent)

pub quiet_plain : (q : AtPort) (old new : List Call) → AreMade q old new both_quiet → AreMadeOf (IsPlain q) old new
quiet_plain q old new = accesses_plain q both_quiet old new (refl, (refl, (refl, (refl, (refl, (refl, tt))))))

-- A start that prepares a receive ring writes only registers of its queue.
pub ready_plain : {q : AtPort} {size frame : ℕ} {old : List Call} {a : Numbers} {new : List Call} {b : Numbers}
    {v : Receive} → IsReceiveReady q size frame old a new b v → AreMadeOf (IsPlain q) old new
ready_plain {q = q} {old = old} {new = new} x =
    then_made (IsPlain q) old x.mid new (quiet_plain q old x.mid x.quiet) (prepared_plain x.prepared)

-- Lemmas: the blocks in a list are among those that the pass lends.

abbrev pub and_all : List ℕ → Blocks → Blocks
and_all [] rings = rings
and_all (n ∷ ns) rings = and_all ns (and_one n rings)

pub stays_in : (ns : List ℕ) (rings : Blocks) (k : ℕ) → rings k ≡ true → and_all ns rings k ≡ true
stays_in [] rings k is = is
stays_in (n ∷ ns) rings k is = stays_in ns (and_one n rings) k (or_right (k == n) (rings k) is)

run_in : (many first k : ℕ) (rings : Blocks) → k < many → and_all (range_with_len first many) rings (first + k) ≡ true
run_in zero first k rings below = absurd (omega (arith, below))
run_in (suc many) first zero rings below = grind (arith, common_steps, stays_in, or_left, eq-eqb)
run_in (suc many) first (suc k) rings below =
    grind (arith, common_steps, run_in many (first + 1) k (and_one first rings) (omega (arith, below)))

-- Each block of the ring is in `rings`.
pub ring_in : (ring size : ℕ) (rings : Blocks)
    → EachRingBlock ring size (λ n. and_all (ring_blocks ring size) rings n ≡ true)
ring_in ring size rings k below = run_in (blocks_for size) ring k rings below
