-- Lemmas about a refused start. A start that times out polled 1,000 times, and its polls are among its pass's calls. On
-- a queue with both sides off, a start fails with `DeviceFault` only while it fills its receive ring.
use Rattle.driver_laws.proofs.Ground.{IsDriven, IsWrite, ground_kept, named_registers_reply, off_sides_are_seen_off}
use Rattle.driver_laws.proofs.Ground.{plain_keeps, reads_driven, side_driven, words_are_writes, writes_driven}
use Rattle.driver_laws.proofs.StartPrelude.{AllAre, AreMadeOf, BeforeNext, HasGround, IsAlong, IsEnable, IsEnding}
use Rattle.driver_laws.proofs.StartPrelude.{IsOtherwise, IsPlain, IsQuiet, IsStrayRead, Never, PollsEnd, StopsBy}
use Rattle.driver_laws.proofs.Reached.{OfCall, added_never, all_before, all_both, all_missed, all_polled, before_made}
use Rattle.driver_laws.proofs.{AskedAmong.asked_last, Reached.made_by, Reached.made_next, Reached.next_never}
use Rattle.driver_laws.proofs.CallKinds.{MayAsk, accesses_are, accesses_plain, enable_driven, may_asks, prepared_plain}
use Rattle.driver_laws.proofs.CallKinds.{quiet_plain, ready_plain, step_ends, then_made}
use Rattle.driver_laws.proofs.{On.agrees_at, On.are_on, On.goes_on_at, SwitchedOff.ending_quiet, SwitchedOff.quiet_kept}
use Rattle.driver_laws.specs.FaultlessStart.{NoneIsLent, ReceiveIsReady, SwitchingIsNeverStray, TransmitIsReady}
use Rattle.driver_laws.specs.Filling.{FaultsAreEarlyOrFilling, FillingBeginsWell, NoFaultIsEarly}
use Rattle.driver_laws.specs.Polls.{AreEnables, Enables, PollsAreReported, asked_after, is_missed, missed_in}
use Rattle.driver_laws.specs.StartPrelude.{Access, AreMade, AreSteps, AtPort, Block, Call, DeviceFault, Dir, Entry}
use Rattle.driver_laws.specs.StartPrelude.{Event}
use Rattle.driver_laws.specs.StartPrelude.{IsNumberOf, Numbers, PmdFault, Port, PreparingFails, Reply, RowId, Rx}
use Rattle.driver_laws.specs.StartPrelude.{Rxdctl}
use Rattle.driver_laws.specs.StartPrelude.{Sees, Sets, StartRefused, StartTimeout, State, StopsStarting, SwitchFails}
use Rattle.driver_laws.specs.StartPrelude.{Tx}
use Rattle.driver_laws.specs.StartPrelude.{Txdctl, Watched, both_asked, both_quiet, call_of, enable_row, has_block}
use Rattle.driver_laws.specs.StartPrelude.{is_driven}
use Rattle.driver_laws.specs.StartPrelude.{is_step, lent_by, missed, receive_polled, ring_words, start_gate, zero_block}
use Rattle.driver_laws.specs.TimedOut.{Asked, IsOfEnable, TimeoutsPoll, TimesOut, asked_by, is_miss, misses, none_asked}
use Rattle.pmd_driver.proofs.PmdAccess.QueueSequences.{both_made as made_after}
use Rattle.pmd_driver.specs.Started.{IsShut}
use Rattle.std.proofs.Common.{Bool, List, [], ap, append_assoc, arith, false, inl, inr, refl, rules, subst, suc, sym}
use Rattle.std.proofs.Common.{true, zero, ℕ, ◌++◌, ◌+◌, ◌-◌, ◌∙◌, ◌∷◌, ◌≡◌, ◌≢◌, ◌⊎◌}
use Rattle.std.proofs.lemmas.{Bool.both_ways, Bool.eq-eqb, Bool.ne_eqb, Grind.common_steps, List.append-nil}
use Rattle.std.specs.Prelude.{Err, IsFalse, None, Option, Some, ◌==◌}
use Rattle.pmd_driver.specs.NicDevice.RegTable.Rows.{rows}
use Rattle.ring_laws.proofs.Lent.{again_is_done}
use Rattle.pmd_driver.specs.NicDevice.declared.event.Event.TheVariants as event
use Rattle.pmd_driver.specs.NicDevice.declared.event.Reply.TheVariants as reply

-- Lemmas: after the driver has requested that both sides be enabled, this many reads find one of them off.

abbrev both : Asked
both = record { receive = true; transmit = true }

side_misses : (side : Dir) (n : ℕ) (rest : List Access)
    → misses both (missed side true n ++ rest) ≡ n + misses both rest
side_misses side zero rest = omega arith
side_misses Rx (suc n) rest = let later = side_misses Rx n rest in omega (arith, later)
side_misses Tx (suc n) rest = let later = side_misses Tx n rest in omega (arith, later)

-- Reads of the enable words access only these words.
enable_reads : (side : Dir) (seen : Bool) → IsOfEnable (Sees (enable_row side) seen)
enable_reads side seen = grind (arith, common_steps)

module _ (q : AtPort) (size frame : ℕ) where
  -- Lemmas about how a start times out.
  switching_times_out : (old mid new : List Call) → AreMadeOf (IsPlain q) old mid
      → SwitchFails StartTimeout q mid new true 1000 → TimesOut q old new
  switching_times_out old mid new before (inl stops) = absurd stops.6
  switching_times_out old mid new (before, is, any) (inr (inl (between, asked, polls))) = record {
    before = before;
    all = both_asked true ++ missed Rx true 1000;
    enables = (tt, (tt, all_missed IsOfEnable true enable_reads Rx 1000));
    made = rw (← is) (made_after q mid between new (both_asked true) (missed Rx true 1000) asked polls);
    polls = grind (arith, common_steps, misses, both, append-nil, missed, side_misses);
  }
  switching_times_out old mid new (before, is, any) (inr (inr (first, between, few, asked, polls))) = record {
    before = before;
    all = receive_polled true first ++ missed Tx true (1000 - first);
    enables =
        all_both IsOfEnable (receive_polled true first) (missed Tx true (1000 - first))
        (tt, (tt, all_polled IsOfEnable true enable_reads Rx first))
        (all_missed IsOfEnable true enable_reads Tx (1000 - first));
    made = rw (← is) (made_after q mid between new (receive_polled true first) _ asked polls);
    polls =
        let more : List Access = missed Tx true (1000 - first) in
        let last = rw append-nil at (side_misses Tx (1000 - first) []) in
        let whole = append_assoc (missed Rx true first) (Sees Rxdctl true ∷ []) more in
        rw (whole, side_misses Rx first (Sees Rxdctl true ∷ more)) (omega (arith, few, last));
  }

  module _ (old : List Call) (a : Numbers) (new : List Call) (e : StartRefused) where
    during : StopsStarting q size frame old a new e → e.fault ≡ StartTimeout → TimesOut q old new
    during (inl x) is = grind (arith, common_steps)
    during (inr (inl x)) is = grind (arith, common_steps)
    during (inr (inr x)) is =
        let made = then_made (IsPlain q) old x.ready_made x.both_made (ready_plain x.receive)
        (prepared_plain x.transmit.prepared) in
        elim (rw is at x.fails) [
          | inl stops ↦ switching_times_out old x.both_made new made stops.0
          | inr filling ↦ absurd filling.2.fails
        ]

    -- Lemmas: a refusal before any event isn't a timeout.

    other_faults : start_gate a q size frame ≢ Some StartTimeout
    other_faults is = grind (arith, common_steps)

    by_gate : (g : Option PmdFault) → g ≢ Some StartTimeout → IsShut g a old new (Err e)
        → (g ≡ None → StopsStarting q size frame old a new e) → e.fault ≡ StartTimeout → TimesOut q old new
    by_gate None apart shut stops is = during (stops refl) is
    by_gate (Some f) apart shut stops is = absurd (apart (ap (λ x. Some x) (sym shut.0 ∙ is)))

pub timeouts_poll : TimeoutsPoll
timeouts_poll q size frame old a new e = search (rules, by_gate, other_faults)

numbers_apart : (port : Port) (queue n m : ℕ) → IsNumberOf port Rxdctl queue n → IsNumberOf port Txdctl queue m → m ≢ n
unfolding rows
numbers_apart port queue n m a b e = grind (arith, common_steps)

module _ (w : Enables) where
  -- Device steps aren't among the misses.
  step_plain : (x : Asked) (e : Event Block) (r : Reply Block) → is_step e ≡ true
      → (is_missed w x e r ≡ false) × (asked_after w x e ≡ x)
  step_plain x e r is = grind (arith, common_steps)

  skipped : (before : List Call) → AreSteps before → (x : Asked) (cs : List Call)
      → missed_in w x (before ++ cs) ≡ missed_in w x cs
  skipped [] steps x cs = refl
  skipped (c ∷ before) steps x cs = grind (arith, common_steps, step_plain, skipped before steps.1 x cs)

module _ (q : AtPort) (w : Enables) (are : AreEnables q w) where
  same : (row : RowId) (n m : ℕ) → IsNumberOf q.port row q.queue n → IsNumberOf q.port row q.queue m → (n == m) ≡ true
  same row n m a b = eq-eqb n m (grind (arith, common_steps))

  apart : (n : ℕ) → IsNumberOf q.port Txdctl q.queue n → (n == w.receive) ≡ false
  apart n named = ne_eqb n w.receive (numbers_apart q.port q.queue w.receive n are.receive named)

  -- What a call shows about its access: whether it is a miss, and the state after it.
  abbrev Tells : Access → Call → Type 0
  Tells a c = (x : Asked) → (is_missed w x c.event c.reply ≡ is_miss x a) × (asked_after w x c.event ≡ asked_by a x)

  access_tells : (a : Access) → IsOfEnable a → OfCall q a (Tells a)
  access_tells a of = grind (arith, common_steps)

  accesses_reported : (all : List Access) (old new : List Call) (x : Asked) → AllAre IsOfEnable all →
      AreMade q old new all
      → (these : List Call) × (new ≡ old ++ these) × (missed_in w x these ≡ misses x all)
  accesses_reported [] old new x of made = ([], made ∙ sym (append-nil old), refl)
  accesses_reported (a ∷ rest) old new x of (mid, one, more) =
      let t = made_by q (Tells a) a (access_tells a of.0) old mid one in
      let (missed, asked) = t.is x in
      let later = accesses_reported rest mid new (asked_by a x) of.1 more in
      let own : List Call = t.before ++ t.call ∷ [] in
      grind (arith, common_steps, append_assoc, skipped)

pub polls_are_reported : PollsAreReported
polls_are_reported q old new x w are =
    let reported = accesses_reported q w are x.all (old ++ x.before) new none_asked x.enables x.made in
    (reported.0, reported.1, reported.2 ∙ x.polls)

-- An access that reads a side as off, or requests that a side be off.
abbrev IsQuieting : Access → Type 0
IsQuieting (Sees row on) = IsEnable row × (on ≡ false)
IsQuieting (Sets row word) = MayAsk (Sets row word)

one_of_both : (port : Port) (queue number : ℕ) (row : RowId) → IsEnable row → IsNumberOf port row queue number
    → IsNumberOf port Rxdctl queue number ⊎ IsNumberOf port Txdctl queue number
one_of_both port queue number row is named = search rules

module _ {w : Watched} {origin : State} {h : List Entry} (q : AtPort) (frame : ℕ) (along : IsAlong w origin h) where
  abbrev Ground : State → Type 0
  Ground = HasGround w.queue q frame

  abbrev Off : State → Type 0
  Off = IsQuiet w.queue q frame

  abbrev Next : (State → Type 0) → List Call → Type 0
  Next P old = BeforeNext w origin h old P

  -- Lemmas about what holds before the next call, after a driver's own calls.

  plain_next : (old new : List Call) → AreMadeOf (IsPlain q) old new → Next Ground old → Next Ground new
  plain_next old new (calls, is, each) =
      made_next along Ground (IsPlain q) (ground_kept w (lent_by w.pass h) q frame)
      (λ s e met made. plain_keeps w.queue q frame s e) calls old new is each

  pub off_grounds : (old : List Call) → Next Off old → Next Ground old
  off_grounds old next before c steps apart done rest e all own is =
      (next before c steps apart done rest e all own is).ground

  -- Lemmas: no access is stray.

  read_never_stray : (row : RowId) → is_driven row ≡ true → (old new : List Call) → IsStrayRead q old new row
      → Next Ground old → Never w origin h new
  read_never_stray row driven old new (number, word, named, adds) =
      next_never along Ground old new (event.Read q.port number) (reply.Stray word) refl
      (λ s g reported.
      let (seen, is) = (named_registers_reply w.queue q frame s row number g driven named).read in cc) adds

  write_never_stray : (a : Access) → IsWrite a → (old new : List Call) → IsOtherwise q old new a → Next Ground old
      → Never w origin h new
  write_never_stray (Sees row on) is old new fails = absurd is
  write_never_stray (Sets row word) is old new (number, seen, named, adds) =
      next_never along Ground old new (event.Write q.port number word) (reply.Stray seen) refl
      (λ s g reported.
      let done = (named_registers_reply w.queue q frame s row number g is named).write word in cc) adds

  writes_never_stop : (all : List Access) → AllAre IsWrite all → (old new : List Call)
      → StopsBy DeviceFault q old new all → Next Ground old → Never w origin h new
  writes_never_stop all are old new (done, a, rest, mid, is, made, fails) at =
      let both = all_before IsWrite done a rest (subst (AllAre IsWrite) is are) in
      write_never_stray a both.1 mid new fails
      (plain_next old mid (accesses_plain q done old mid (writes_driven done both.0) made) at)

  -- While the sides are off, no access reads a side as on.
  never_otherwise : (a : Access) → IsQuieting a → (old new : List Call) → IsOtherwise q old new a → Next Off old
      → Never w origin h new
  never_otherwise (Sees row on) (enable, off) old new (inl (number, word, named, seen, adds)) next =
      next_never along Off old new (event.Read q.port number) (reply.Word word) refl
      (grind (arith, common_steps, both_ways, off_sides_are_seen_off, one_of_both)) adds next
  never_otherwise (Sees row on) (enable, off) old new (inr stray) next =
      read_never_stray row (enable_driven row enable) old new stray (off_grounds old next)
  never_otherwise (Sets row word) (enable, none) old new fails next =
      write_never_stray (Sets row word) (enable_driven row enable) old new fails (off_grounds old next)

  quieting_never_stops : (old new : List Call) → StopsBy DeviceFault q old new both_quiet → Next Off old
      → Never w origin h new
  quieting_never_stops old new (done, a, rest, mid, is, made, fails) at =
      let both = all_before IsQuieting done a rest (subst (AllAre IsQuieting) is (grind (arith, common_steps))) in
      let (calls, same, each) =
      accesses_are q (IsEnding q) IsQuieting (step_ends q) (λ port number. tt) (may_asks q) done old mid both.0 made in
      never_otherwise a both.1 mid new fails
      (made_next along Off (IsEnding q) (quiet_kept w (lent_by w.pass h) q frame)
      (ending_quiet w.queue q frame) calls old mid same each at)

  -- Lemmas about preparing a ring.
  preparing_never_fails : (side : Dir) (size : ℕ) (old : List Call) (a : Numbers) (new : List Call) (b : Numbers)
      (out : List ℕ) → PreparingFails DeviceFault q side size old a new b out → Next Ground old
      → NoneIsLent w origin h new b → Never w origin h new
  preparing_never_fails side size old a new b out (ring, free, inl (stops, same, empty)) at none =
      writes_never_stop (ring_words side ring size) (words_are_writes side ring size) old new stops at
  preparing_never_fails side size old a new b out (ring, free, inr (mid, made, stops)) at none =
      added_never along (λ s. IsFalse (has_block s.memory stops.next)) stops.mid new
      (event.Lend (zero_block stops.next)) (reply.Twice stops.fails.0) (grind (arith, common_steps, again_is_done))
      stops.fails.1 (none stops.next stops.free
      (rw stops.fails.1.1
      (asked_last stops.mid stops.fails.1.0 (call_of (event.Lend (zero_block stops.next)) (reply.Twice stops.fails.0))
      stops.next (eq-eqb stops.next stops.next refl))))

  -- Lemmas: the driver requests that both sides be enabled, and polls them.

  polls_never_stray : (side : Dir) (polls : ℕ) (old new : List Call)
      → PollsEnd DeviceFault q old new side true polls → Next Ground old → Never w origin h new
  polls_never_stray side polls old new (misses, mid, few, made, stray) at =
      read_never_stray (enable_row side) (side_driven side) mid new stray
      (plain_next old mid
      (accesses_plain q (missed side true misses) old mid (all_missed IsDriven true reads_driven side misses) made) at)

  switching_never_fails : (old new : List Call) → SwitchFails DeviceFault q old new true 1000 → Next Ground old
      → Never w origin h new
  switching_never_fails old new (inl stops) at =
      writes_never_stop (both_asked true) (refl, (refl, tt)) old new stops at
  switching_never_fails old new (inr (inl (mid, made, polls))) at =
      polls_never_stray Rx 1000 mid new polls
      (plain_next old mid (accesses_plain q (both_asked true) old mid (refl, (refl, tt)) made) at)
  switching_never_fails old new (inr (inr (first, mid, few, made, polls))) at =
      polls_never_stray Tx (1000 - first) mid new polls
      (plain_next old mid
      (accesses_plain q (receive_polled true first) old mid
      (refl, (refl, all_polled IsDriven true reads_driven Rx first)) made) at)

pub receive_is_ready : ReceiveIsReady
receive_is_ready w q origin h size frame old a new b out along at (inl (stops, same, empty)) none =
    quieting_never_stops q frame along old new stops at
receive_is_ready w q origin h size frame old a new b out along at (inr (mid, made, fails)) none =
    preparing_never_fails q frame along Rx size mid a new b out fails
    (plain_next q frame along old mid (quiet_plain q old mid made) (off_grounds q frame along old at)) none

pub transmit_is_ready : TransmitIsReady
transmit_is_ready w q origin h size frame old a mid b v new c out along at ready fails none =
    preparing_never_fails q frame along Tx size mid b new c out fails
    (plain_next q frame along old mid (ready_plain ready) (off_grounds q frame along old at)) none

pub switching_is_never_stray : SwitchingIsNeverStray
switching_is_never_stray w q origin h size frame old a mid b v both c t new along at ready more fails =
    switching_never_fails q frame along both new fails
    (plain_next q frame along mid both (prepared_plain more.prepared)
    (plain_next q frame along old mid (ready_plain ready) (off_grounds q frame along old at)))

pub faults_are_early_or_filling : FaultsAreEarlyOrFilling
faults_are_early_or_filling q size frame old a new e (inl x) is = inl (inl (search rules))
faults_are_early_or_filling q size frame old a new e (inr (inl x)) is = inl (inr (inl (search rules)))
faults_are_early_or_filling q size frame old a new e (inr (inr x)) is =
    elim (rw is at x.fails) [
      | inl stops ↦ inl (inr (inr (search rules)))
      | inr filling ↦ inr (record {
        mid = filling.0;
        empty = x.empty;
        sender = x.sender;
        on = are_on x.sized x.framed x.receive x.transmit filling.1;
        arena = x.arena;
        filled = x.filled;
        fails = filling.2;
      })
    ]

pub no_fault_is_early : NoFaultIsEarly
no_fault_is_early w q origin h size frame old a new along at (inl x) fresh = search (rules, receive_is_ready)
no_fault_is_early w q origin h size frame old a new along at (inr (inl x)) fresh = search (rules, transmit_is_ready)
no_fault_is_early w q origin h size frame old a new along at (inr (inr x)) fresh =
    search (rules, switching_is_never_stray)

pub filling_begins_well : FillingBeginsWell
filling_begins_well w q origin h size frame old a new along at x done rest all calls =
    let quiet = x.on.receive.quiet in
    let well = before_made q w origin h (HasGround w.queue q frame) (Sees Rxdctl false) old quiet.0 quiet.1
    (off_grounds q frame along old at) in
    let agree = agrees_at x.on along well done rest all calls in
    ((goes_on_at x.on along well done rest all calls).receives, agree.0, agree.1)
