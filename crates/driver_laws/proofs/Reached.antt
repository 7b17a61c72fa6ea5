-- Lemmas about a history that leaves a queue alone, entry by entry and by the calls of its pass. They also cover the
-- calls that a driver's accesses add, and where these calls lead over the history.
use Rattle.pmd_driver.specs.DeviceLock.{Alone.EntryLeavesAlone, History.AreEvents, History.IsLegal}
use Rattle.driver_laws.proofs.Parts.{around, begun, calls_joined, ends_some, more_some, own_some, parts}
use Rattle.driver_laws.proofs.StartPrelude.{AllAre, AreMadeOf, AtCalls, AtEntries, BeforeLast, BeforeNext, IsAlong}
use Rattle.driver_laws.proofs.StartPrelude.{IsKept}
use Rattle.driver_laws.proofs.StartPrelude.{IsMet, Leads, Never, WritesOutside, calls_other, calls_own, events_before}
use Rattle.driver_laws.proofs.StartPrelude.{events_after, histories_sound, leads-append, legal_past, no_block}
use Rattle.driver_laws.proofs.StartPrelude.{vfs_stays}
use Rattle.driver_laws.specs.StartPrelude.{Access, Adds, AreMade, AreSteps, AtPort, Block, Blocks, Call, Dir, Entry}
use Rattle.driver_laws.specs.StartPrelude.{Event}
use Rattle.driver_laws.specs.StartPrelude.{IsEvent, IsMade, IsNumberOf, IsSound, LeavesBlocks, LeavesRegisters, Reply}
use Rattle.driver_laws.specs.StartPrelude.{RowId}
use Rattle.driver_laws.specs.StartPrelude.{Rx, Sees, Sets, State, Tx, Watched, after, both_asked, call_in, call_of}
use Rattle.driver_laws.specs.StartPrelude.{calls_of}
use Rattle.driver_laws.specs.StartPrelude.{enable_row, has_bit, is_step, leads_to, lent_by, missed, mode_in, polled}
use Rattle.driver_laws.specs.{Ending.Each, StartPrelude.receive_polled, StartPrelude.reply_to, Standing.IsLeft}
use Rattle.std.proofs.Common.{Bool, List, ℕ, [], append_assoc, arith, false, inl, inr, not, refl, rules, subst, suc}
use Rattle.std.proofs.Common.{sym, true, zero, ◌++◌, ◌∙◌, ◌∷◌, ◌≡◌, ◌≢◌}
use Rattle.std.proofs.lemmas.{Bool.cases_Bool, Bool.eqb-false, Grind.common_steps, List.append-nil, List.same_from_push}
use Rattle.{driver_laws.proofs.StartPrelude.no_registers, std.specs.Prelude.IsFalse, std.specs.Prelude.IsTrue}
use Rattle.pmd_driver.specs.NicDevice.declared.event.Event.TheVariants as event
use Rattle.pmd_driver.specs.NicDevice.declared.event.Reply.TheVariants as reply

-- The state that the entries so far lead to.
abbrev pub reached : Watched → State → List Entry → State
reached w origin done = leads_to origin done

pub reached_next : (w : Watched) (origin : State) (done : List Entry) (e : Entry)
    → leads_to origin (done ++ e ∷ []) ≡ after (leads_to origin done) e.event
reached_next w origin done e = leads-append origin done (e ∷ [])

-- `KeptOver`: each entry that leaves the queue alone preserves a property of the entries so far. `LeadsOver`: the
-- driver's own call leads from one such property to another.

abbrev pub KeptOver : Watched → State → Blocks → (List Entry → Type 0) → Type 0
KeptOver w origin mine P =
    (done : List Entry) (e : Entry) → IsLeft w mine (leads_to origin done) e.event → P done → P (done ++ e ∷ [])

abbrev pub LeadsOver : Watched → State → Blocks → Call → (List Entry → Type 0) → (List Entry → Type 0) → Type 0
LeadsOver w origin mine c P Q =
    (done : List Entry) (e : Entry) → call_in e ≡ c → IsMet w.queue (leads_to origin done) → IsEvent e.event
    → e.reply ≡ reply_to (leads_to origin done) e.event → WritesOutside w.queue mine e.reply → P done
    → Q (done ++ e ∷ [])

-- `P` holds for the entries before the last of these calls.
abbrev pub Before : Watched → List Entry → List Call → (List Entry → Type 0) → Type 0
Before w h calls P =
    (done rest : List Entry) (e : Entry) → done ++ e ∷ rest ≡ h → e.pass ≡ w.pass
    → calls_of w.pass done ++ call_in e ∷ [] ≡ calls → P done

-- The same lemma for a property of the state alone.

pub state_kept : (w : Watched) (origin : State) (mine : Blocks) (P : State → Type 0) → IsKept w mine P
    → KeptOver w origin mine (λ done. P (leads_to origin done))
state_kept w origin mine P kept done e left p = grind (arith, common_steps, reached_next)

-- An event that writes no register that the queue relies on, and touches none of the blocks `mine`, leaves the queue
-- alone.
pub free_left : (w : Watched) (mine : Blocks) (s : State) (e : Event Block) → IsMet w.queue s → IsEvent e
    → w.vfs ≡ s.vfs → WritesOutside w.queue mine (reply_to s e)
    → LeavesRegisters w (mode_in s.registers) e × LeavesBlocks mine e → IsLeft w mine s e
free_left w mine s e met made vfs steps free = grind (arith, common_steps)

-- Lemmas: a device step leaves each queue alone.

abbrev pub watching : ℕ → State → Watched
watching queue s = record { vfs = s.vfs; pass = 0; queue = queue }

module _ (queue : ℕ) (s : State) (e : Event Block) (met : IsMet queue s) (made : IsEvent e) where
  -- An event that writes no register leaves each queue alone.
  pub alone_left : LeavesRegisters (watching queue s) (mode_in s.registers) e × LeavesBlocks no_block e
      → IsLeft (watching queue s) no_block s e
  alone_left free = grind (arith, common_steps, free_left, no_block)

  pub step_left : is_step e ≡ true → IsLeft (watching queue s) no_block s e
  step_left is = grind (arith, common_steps, alone_left, no_registers, no_block)

module _ {w : Watched} {origin : State} {h : List Entry} (x : IsAlong w origin h) where
  pub sound_at : (done rest : List Entry) → done ++ rest ≡ h → IsSound (leads_to origin done)
  sound_at done rest all = histories_sound origin done x.sound (events_before done rest (rw all x.events))

  -- What is known about an entry of the history.
  pub record IsEntry (done : List Entry) (e : Entry) : Type 0 where
    pub met : IsMet w.queue (leads_to origin done)
    pub vfs : w.vfs ≡ (leads_to origin done).vfs
    pub made : IsEvent e.event
    pub reported : e.reply ≡ reply_to (leads_to origin done) e.event

  pub entry_is : (done rest : List Entry) (e : Entry) → done ++ e ∷ rest ≡ h → IsEntry done e
  entry_is done rest e all =
      let events = events_after done (e ∷ rest) (subst AreEvents (sym all) x.events) in
      let legal = legal_past origin done (e ∷ rest) (subst (IsLegal origin) (sym all) x.legal) in
      search (rules, sound_at, vfs_stays)

  -- Lemmas about an entry after the pass has made a call.
  module _ (done rest : List Entry) (e : Entry) (all : done ++ e ∷ rest ≡ h) (some : calls_of w.pass done ≢ []) where
    alone : EntryLeavesAlone w (lent_by w.pass h) (mode_in (leads_to origin done).registers) e
    alone = x.alone done e rest (sym all) (begun w.pass done some)

    pub foreign_left : e.pass ≢ w.pass → IsLeft w (lent_by w.pass h) (leads_to origin done) e.event
    foreign_left other = grind (arith, common_steps, entry_is, free_left, alone)

  -- `P` relates the entries so far to the calls that the pass makes after them. If entries of other passes and each of
  -- these calls preserve `P`, it holds at the end.
  module _ (P : List Entry → List Call → Type 0)
      (kept : (cs : List Call) → KeptOver w origin (lent_by w.pass h) (λ done. P done cs))
      (leads :
      (done rest : List Entry) (e : Entry) (cs : List Call) → done ++ e ∷ rest ≡ h → calls_of w.pass done ≢ []
      → P done (call_in e ∷ cs) → P (done ++ e ∷ []) cs) where
    pub walk : (done back now rest : List Entry) → done ++ back ≡ now → now ++ rest ≡ h → calls_of w.pass done ≢ []
        → P done (calls_of w.pass back) → P now []
    walk done [] now rest split all some p = rw (← split, append-nil done) p
    walk done (e ∷ back) now rest split all some p =
        let here : done ++ e ∷ (back ++ rest) ≡ h = cc (append_assoc done (e ∷ back) rest) in
        let on = walk (done ++ e ∷ []) back now rest (cc (append_assoc done (e ∷ []) back)) all
        (rw calls_joined (more_some _ _ some)) in
        search (rules, cases_Bool, calls_own, foreign_left, eqb-false, calls_other)

  -- If `P` holds before an added call, `Q` holds at each point where this call is the pass's last one.
  pub added_leads : (P Q : List Entry → Type 0) → KeptOver w origin (lent_by w.pass h) Q → (old new : List Call)
      (f : Event Block) (r : Reply Block)
      → ((done : List Entry) (e : Entry) → call_in e ≡ call_of f r → IsMet w.queue (leads_to origin done)
      → IsEvent e.event → e.reply ≡ reply_to (leads_to origin done) e.event → P done → Q (done ++ e ∷ []))
      → Adds old new f r → Before w h new P → AtEntries w h new Q
  added_leads P Q kept old new f r leads (before, added, steps) at done rest all is =
      let same = append_assoc old before (call_of f r ∷ []) in
      let a = around w.pass done (old ++ before) (call_of f r) [] (cc same) in
      let e = a.entry in
      let whole : a.before ++ e ∷ (a.following ++ rest) ≡ h = cc (append_assoc a.before (e ∷ a.following) rest) in
      let here = entry_is a.before (a.following ++ rest) e whole in
      let p = at a.before (a.following ++ rest) e whole a.own (cc same) in
      (walk (λ so_far cs. Q so_far × (cs ≡ [])) (λ cs so_far g left p. (kept so_far g left p.0, p.1))
      (λ so_far more g cs there some p. absurd (cc p.1)) (a.before ++ e ∷ [])
      a.following done rest (append_assoc a.before (e ∷ []) a.following ∙ a.all) all (own_some w.pass a.before e a.own)
      (leads a.before e a.call here.met here.made here.reported p, a.later)).0

-- If each call of one kind preserves a property, so does a list of such calls.
pub all_lead : (w : Watched) (origin : State) (h : List Entry) (P : List Entry → Type 0) (Own : Call → Type 0)
    → IsAlong w origin h → KeptOver w origin (lent_by w.pass h) P
    → ((c : Call) → Own c → LeadsOver w origin (lent_by w.pass h) c P P)
    → (calls old : List Call) → Each Own calls → old ≢ [] → AtEntries w h old P → AtEntries w h (old ++ calls) P
all_lead w origin h P Own x kept leads calls old each some at done rest all is =
    let p = parts w.pass done old calls is in
    (walk x (λ so_far cs. P so_far × Each Own cs) (λ cs so_far e left y. (kept so_far e left y.0, y.1))
    (λ so_far more e cs here made y.
    let is = entry_is x so_far more e here in
    let steps = (alone x so_far more e here made).steps in
    (leads (call_in e) y.1.0 so_far e refl is.met is.made is.reported steps y.0, y.1.1))
    p.front p.back done rest p.both all (λ none. some (sym p.fronts ∙ none))
    (at p.front (p.back ++ rest) (cc (append_assoc p.front p.back rest)) p.fronts, rw p.backs each)).0

-- If each event of one kind preserves a property, so do calls with such events.
pub made_keep : {w : Watched} {origin : State} {h : List Entry} (P : State → Type 0) (K : Event Block → Type 0)
    → IsAlong w origin h → IsKept w (lent_by w.pass h) P
    → ((s : State) (e : Event Block) → IsMet w.queue s → IsEvent e → K e → P s → P (after s e)) → (old new : List Call)
    → AreMadeOf K old new → old ≢ [] → AtCalls w origin h old P → AtCalls w origin h new P
made_keep {w = w} {origin = origin} {h = h} P K x kept own old new (calls, is, each) some at =
    rw is
    (all_lead w origin h (λ done. P (leads_to origin done)) (λ c. K c.event) x
    (state_kept w origin (lent_by w.pass h) P kept) (λ c k. grind (arith, common_steps, reached_next)) calls old each
    some at)

-- If each device step is of some kind, all steps in a list are of that kind.
pub steps_are : (P : Event Block → Type 0) → ((e : Event Block) → is_step e ≡ true → P e) → (calls : List Call)
    → AreSteps calls → Each (λ c. P c.event) calls
steps_are P stepping [] steps = tt
steps_are P stepping (c ∷ calls) steps = (stepping c.event steps.0, steps_are P stepping calls steps.1)

module _ {w : Watched} {origin : State} {h : List Entry} (x : IsAlong w origin h) where
  -- If every entry that leaves the queue alone preserves `P`, `P` still holds just before an added call. The pass must
  -- have made a call before.
  pub added_before : (P : List Entry → Type 0) → KeptOver w origin (lent_by w.pass h) P → (old new : List Call)
      (f : Event Block) (r : Reply Block) → Adds old new f r → old ≢ [] → AtEntries w h old P → Before w h new P
  added_before P kept old new f r (before, added, steps) some at done rest e all own is =
      all_lead w origin h P (λ c. IsTrue (is_step c.event)) x kept
      (λ c is done e same met made reported outside p. search (rules, free_left, vfs_stays, no_registers)) before old
      (steps_are (λ g. IsTrue (is_step g)) (λ g step. step) before steps) some at done (e ∷ rest) all
      (same_from_push (calls_of w.pass done) (old ++ before) (call_in e) (call_of f r)
      (cc (append_assoc old before (call_of f r ∷ [])))).0

  -- If the device sends another reply wherever `P` holds, a call with this reply is never added where `P` holds.
  pub added_never : (P : State → Type 0) → (old new : List Call) (f : Event Block) (r : Reply Block)
      → ((s : State) → P s → r ≡ reply_to s f → ⊥) → Adds old new f r → BeforeLast w origin h new P
      → Never w origin h new
  added_never P old new f r refutes adds at =
      added_leads x (λ done. P (leads_to origin done)) (λ done. ⊥) (λ done e left none. none) old new f r
      (λ done e same met made reported p. grind (arith, common_steps, reached_next)) adds at

  -- If the device replies differently wherever `P` holds, this call is never the next one that isn't a step.
  pub next_never : (P : State → Type 0) → (old new : List Call) (f : Event Block) (r : Reply Block)
      → is_step f ≡ false → ((s : State) → P s → r ≡ reply_to s f → ⊥) → Adds old new f r
      → BeforeNext w origin h old P → Never w origin h new
  next_never P old new f r apart refutes (before, added, steps) at =
      added_never P old new f r refutes (before, added, steps) (rw added (at before (call_of f r) steps apart))

  -- If every event that leaves the queue alone preserves `P`, `P` still holds just before the pass's next call. The
  -- pass must have made a call before.
  pub then_before : (P : State → Type 0) → IsKept w (lent_by w.pass h) P → (old : List Call) → old ≢ []
      → AtCalls w origin h old P → BeforeNext w origin h old P
  then_before P kept old some at before c steps apart =
      added_before (λ done. P (leads_to origin done)) (state_kept w origin (lent_by w.pass h) P kept) old _ c.event
      c.reply (before, refl, steps) some at

  -- Lemmas: if each event of kind `K` preserves `P`, so do the pass's own calls of that kind.
  module _ (P : State → Type 0) (K : Event Block → Type 0) (kept : IsKept w (lent_by w.pass h) P)
      (own : (s : State) (e : Event Block) → IsMet w.queue s → IsEvent e → K e → P s → P (after s e)) where
    pub made_next : (calls old new : List Call) → new ≡ old ++ calls → Each (λ c. K c.event) calls
        → BeforeNext w origin h old P → BeforeNext w origin h new P
    made_next [] old new is each at = rw (is, append-nil old) at
    made_next (c ∷ calls) old new is each at =
        let now : List Call = old ++ c ∷ [] in
        made_next calls now new (is ∙ sym (append_assoc old (c ∷ []) calls)) each.1
        (elim (cases_Bool (is_step c.event)) as (λ _. BeforeNext w origin h now P) [
          | inl step ↦ λ before d steps apart. rw append_assoc (at (c ∷ before) d (step, steps) apart)
          | inr apart ↦
              then_before P kept now (ends_some old [] c)
              (added_leads x (λ done. P (leads_to origin done)) (λ done. P (leads_to origin done))
              (state_kept w origin (lent_by w.pass h) P kept) old now c.event c.reply
              (λ done e same met made reported p. grind (arith, common_steps, reached_next)) ([], refl, tt)
              (at [] c tt apart))
        ])

module _ (K : Access → Type 0) where
  pub all_both : (xs ys : List Access) → AllAre K xs → AllAre K ys → AllAre K (xs ++ ys)
  all_both [] ys are more = more
  all_both (x ∷ xs) ys are more = (are.0, all_both xs ys are.1 more)

  pub all_before : (done : List Access) (a : Access) (rest : List Access) → AllAre K (done ++ a ∷ rest)
      → AllAre K done × K a
  all_before [] a rest are = (tt, are.0)
  all_before (d ∷ done) a rest are = grind (arith, common_steps, all_before done a rest are.1)

  -- Lemmas about polls of enable words.
  module _ (on : Bool) (reads : (side : Dir) (seen : Bool) → K (Sees (enable_row side) seen)) where
    pub all_missed : (side : Dir) (count : ℕ) → AllAre K (missed side on count)
    all_missed side zero = tt
    all_missed side (suc count) = (reads side (not on), all_missed side count)

    pub all_polled : (side : Dir) (count : ℕ) → AllAre K (polled side on count)
    all_polled side count = grind (arith, common_steps, all_both, missed, all_missed)

    -- The requests for both sides come before the polls.
    pub all_received : AllAre K (both_asked on) → (count : ℕ) → AllAre K (receive_polled on count)
    all_received asked count = all_both (both_asked on) (polled Rx on count) asked (all_polled Rx count)

    pub all_switched : AllAre K (both_asked on) → (first second : ℕ)
        → AllAre K (receive_polled on first ++ polled Tx on second)
    all_switched asked first second =
        all_both (receive_polled on first) (polled Tx on second) (all_received asked first) (all_polled Tx second)

-- `P` holds for an access's call, whatever its number and the word read.
abbrev pub OfCall : AtPort → Access → (Call → Type 0) → Type 0
OfCall q (Sees row on) P =
    (number word : ℕ) → IsNumberOf q.port row q.queue number → has_bit 25 word ≡ on
    → P (call_of (event.Read q.port number) (reply.Word word))
OfCall q (Sets row word) P =
    (number : ℕ) → IsNumberOf q.port row q.queue number → P (call_of (event.Write q.port number word) reply.Done)

-- The calls added are device steps, followed by a call with property `P`.
pub record AddsCall (P : Call → Type 0) (old new : List Call) : Type 0 where
  pub before : List Call
  pub call : Call
  pub added : new ≡ old ++ (before ++ call ∷ [])
  pub steps : AreSteps before
  pub is : P call

module _ (q : AtPort) where
  pub made_by : (P : Call → Type 0) (a : Access) → OfCall q a P → (old new : List Call) → IsMade q old new a
      → AddsCall P old new
  made_by P a of old new x = grind (arith, common_steps)

  pub made_some : (old new : List Call) (a : Access) → IsMade q old new a → new ≢ []
  made_some old new a made none = grind (arith, common_steps, ends_some)

  pub some_made : (all : List Access) (old new : List Call) → AreMade q old new all → old ≢ [] → new ≢ []
  some_made [] old new made some = λ none. some (sym made ∙ none)
  some_made (a ∷ rest) old new (mid, here, more) some = some_made rest mid new more (made_some old mid a here)

  pub extends : (all : List Access) (old new : List Call) → AreMade q old new all
      → (more : List Call) × (new ≡ old ++ more)
  extends [] old new made = ([], made ∙ sym (append-nil old))
  extends (a ∷ rest) old new (mid, here, more) = grind (arith, common_steps, extends rest mid new more)

  pub before_made : (w : Watched) (origin : State) (h : List Entry) (P : State → Type 0) (a : Access)
      (old new : List Call) → IsMade q old new a → BeforeNext w origin h old P → BeforeLast w origin h new P
  before_made w origin h P a old new made at =
      let x : AddsCall (λ c. IsFalse (is_step c.event)) old new = grind (arith, common_steps, made_by) in grind arith

  module _ {w : Watched} {origin : State} {h : List Entry} (along : IsAlong w origin h) where
    -- If `P` holds before an access, `Q` holds at each point where the access is the pass's last call.
    pub access_leads : (P Q : State → Type 0) (a : Access) → IsKept w (lent_by w.pass h) Q
        → OfCall q a (λ c. Leads w.queue c P Q) → (old new : List Call) → IsMade q old new a
        → BeforeLast w origin h new P → AtCalls w origin h new Q
    access_leads P Q a kept leads old new made =
        let x = made_by (λ c. Leads w.queue c P Q) a leads old new made in
        added_leads along (λ done. P (leads_to origin done)) (λ done. Q (leads_to origin done))
        (state_kept w origin (lent_by w.pass h) Q kept) old new x.call.event x.call.reply
        (λ done e same met made reported p. let leads = x.is in grind (arith, common_steps, reached_next))
        (x.before, x.added, x.steps)

-- What holds after a read that may be the pass's first call.
pub first_seen : (w : Watched) (q : AtPort) (origin : State) (h : List Entry) (P : State → Type 0) → IsAlong w origin h
    → IsKept w (lent_by w.pass h) P → ((s : State) (number : ℕ) → P s → P (after s (event.Read q.port number)))
    → (row : RowId) (on : Bool) (old new : List Call) → IsMade q old new (Sees row on) → BeforeLast w origin h new P
    → AtCalls w origin h new P
first_seen w q origin h P along kept read row on =
    access_leads q along P P (Sees row on) kept (λ number word named is s met made reported p. read s number p)
