-- Lemmas: harmless calls alongside the driver's leave both halves unchanged and leave the queue alone. The invariant
-- between two entries of a history is preserved by each event of either half, and by each other event that leaves the
-- queue alone. A side of the queue that is up stays up.
use Rattle.driver_laws.proofs.StartPrelude.{AreLent, BothAgree, IsDriven, IsMet, Spares, asked, both_apart, doer_of}
use Rattle.driver_laws.proofs.StartPrelude.{doers_after, events_before, histories_sound, keeps_sound, mine-moved}
use Rattle.driver_laws.proofs.StartPrelude.{mine_driven, plain-write, runs, vfs_stays, write_rest}
use Rattle.driver_laws.proofs.Sending.{Touches, is_elsewhere, move_spares, move_touches, own_spares, own_touches}
use Rattle.driver_laws.proofs.Sending.{receive_lent, received_spares, receives_apart, reports_spare, sender_lent}
use Rattle.driver_laws.proofs.Sending.{sends_apart, touch_pieces, touch_setting}
use Rattle.driver_laws.proofs.{Ground.ground, Parts.calls_are, Parts.with_call, Reached.free_left}
use Rattle.driver_laws.specs.Harmless.{AddsHarmless, AreHarmless, CallsAddHarmless, DrivesLead, HarmlessLead}
use Rattle.driver_laws.specs.Harmless.{HarmlessLeaveAlone, Leads, LeadsOn, OthersHarmless, StepsAddHarmless}
use Rattle.driver_laws.specs.Harmless.{is_harmless}
use Rattle.driver_laws.specs.StartPrelude.{Agree, AllLendApart, AllOwn, AreSteps, Block, Blocks, Call, Dir, Doer}
use Rattle.driver_laws.specs.StartPrelude.{DrivesApart, Elsewhere, Entry, Event, Halves, IsEvent, IsSound, IsUp}
use Rattle.driver_laws.specs.StartPrelude.{LeavesBlocks, LeavesRegisters, Memory, Mode, Move, OwnCall, Piece, Receives}
use Rattle.driver_laws.specs.StartPrelude.{Rx}
use Rattle.driver_laws.specs.StartPrelude.{Rxdctl, Sends, State, Tx, Watched, WritesNoSetting, WritesOutside, after}
use Rattle.driver_laws.specs.StartPrelude.{after_call, call_of, calls_of, doers_other, has_block, has_lent, is_neither}
use Rattle.driver_laws.specs.StartPrelude.{is_step, leads_to, lent_by, mode_in, pieces, place, played_by, reply_to}
use Rattle.driver_laws.specs.StartPrelude.{sent_by}
use Rattle.pmd_driver.proofs.NicDevice.Steps.{step_leads}
use Rattle.pmd_driver.specs.DeviceLock.{Alone.place_at, NicDevice.RegTable.declared.rows.RowId.TheVariants.Txdctl}
use Rattle.pmd_driver.proofs.Followed.{both_own, both_played, others_own, others_played, own_length}
use Rattle.ring_laws.proofs.Foreign.{alone_stays_up, left_keeps, left_up, own_stays_up}
use Rattle.ring_laws.proofs.{Written.place_named, Off.enable_words_keep as transmit_word_keeps}
use Rattle.ring_laws.proofs.{Leaving.leaving_keeps, Leaving.switching_keeps, Playing.moves_keep, Playing.up_stays}
use Rattle.ring_laws.proofs.{Own.own_keeps, InOrder.left_alone_is_spared, Sparing.sparing_events_keep}
use Rattle.ring_laws.specs.{Agreeing.Agrees, Lent.LendsOneOf, Fitting.ResetsNoPool, Sides.Side}
use Rattle.std.proofs.Common.{Bool, List, [], ap, append_assoc, arith, false, length, refl, rules, subst, sym, true, ℕ}
use Rattle.std.proofs.lemmas.{Bool.eq-eqb, Grind.common_steps, List.append-nil}
use Rattle.std.{proofs.Common.◌++◌, proofs.Common.◌∙◌, proofs.Common.◌∷◌, proofs.Common.◌≡◌, specs.Prelude.◌==◌}
use Rattle.ring_laws.specs.Moves.{MayMove}
use Rattle.driver_laws.specs.Enabling.{EnableWordsKeep}
use Rattle.{pmd_driver.specs.Halves.OthersStep, pmd_driver.specs.PmdTx.Sending.moved, std.specs.Prelude.IsTrue}
use Rattle.pmd_driver.specs.NicDevice.declared.event.Event.TheVariants as event
use Rattle.pmd_driver.specs.PmdRx.Keeping as received_half
use Rattle.pmd_driver.specs.PmdTx.Sending as sending
use Rattle.ring_laws.specs.ReceiveUp as received
use Rattle.std.specs.FinMap as map

-- Device steps are harmless.

step_harmless : (e : Event Block) → IsTrue (is_step e) → IsTrue (is_harmless e)
step_harmless e is = grind (arith, common_steps)

pub steps_harmless : (calls : List Call) → AreSteps calls → AreHarmless calls
steps_harmless [] steps = tt
steps_harmless (c ∷ calls) steps = (step_harmless c.event steps.0, steps_harmless calls steps.1)

pub steps_add_harmless : StepsAddHarmless
steps_add_harmless old new (before, made, steps) = (before, made, steps_harmless before steps)

-- If harmless calls are followed by a harmless call, all of them are harmless.
last_harmless : (calls : List Call) (c : Call) → AreHarmless calls → IsTrue (is_harmless c.event)
    → AreHarmless (calls ++ c ∷ [])
last_harmless [] c harmless is = (is, tt)
last_harmless (d ∷ calls) c harmless is = (harmless.0, last_harmless calls c harmless.1 is)

pub calls_add_harmless : CallsAddHarmless
calls_add_harmless old new e reply (before, made, steps) is = grind (arith, common_steps, last_harmless, steps_harmless)

-- Lemmas: the driver's calls lead its halves on.

pub others_harmless : (doers : List Doer) (calls : List Call) → OthersStep doers calls → OthersHarmless doers calls
others_harmless [] calls steps = steps_harmless calls steps
others_harmless (d ∷ doers) [] steps = tt
others_harmless (d ∷ doers) (c ∷ calls) steps = search (rules, step_harmless, others_harmless doers calls steps.1)

unfoldable pub drives_lead : DrivesLead
drives_lead old new h k (doers, since, made, own, is, steps) =
    (doers, since, made, own, is, others_harmless doers since steps)

-- Lemmas: harmless calls by themselves leave the halves unchanged.

pub marked : (calls : List Call) → AreHarmless calls → OthersHarmless (doers_other calls) calls
marked [] harmless = tt
marked (c ∷ calls) harmless = (λ neither. harmless.0, marked calls harmless.1)

unfoldable pub harmless_lead : HarmlessLead
harmless_lead old new h (more, made, harmless) =
    (doers_other more, more, made, others_own h more, others_played h more, marked more harmless)

-- Lemmas about one list of calls followed by another, where the calls that belong to neither half are harmless.

pub harmless_both : (ds es : List Doer) (ms ns : List Call) → length ds ≡ length ms → OthersHarmless ds ms
    → OthersHarmless es ns → OthersHarmless (ds ++ es) (ms ++ ns)
harmless_both [] es [] ns long first then = then
harmless_both [] es (m ∷ ms) ns long first then = absurd (omega (arith, long))
harmless_both (d ∷ ds) es [] ns long first then = absurd (omega (arith, long))
harmless_both (d ∷ ds) es (m ∷ ms) ns long first then =
    (first.0, harmless_both ds es ms ns (omega (arith, long)) first.1 then)

unfoldable pub leads_on : LeadsOn
leads_on old mid new h j k (ds, ms, made, own, is, harmless) (es, ns, more, then, was, others) =
    let here : AllOwn (played_by h ds ms) es ns = subst (λ x. AllOwn x es ns) is then in (
      ds ++ es,
      ms ++ ns,
      more ∙ ap (λ (calls : List Call). calls ++ ns) made ∙ append_assoc old ms ns,
      both_own h ds es ms ns own here,
      was ∙ ap (λ x. played_by x es ns) is ∙ sym (both_played h ds es ms ns own),
      harmless_both ds es ms ns (own_length h ds ms own) harmless others,
    )

-- Lemmas: a harmless event writes no register that a queue relies on, and touches no block.

pub left : (w : Watched) (mode : Mode) (mine : Blocks) (e : Event Block) → IsTrue (is_harmless e)
    → LeavesRegisters w mode e × LeavesBlocks mine e
left w mode mine e is = grind (arith, common_steps, runs)

-- If an entry belongs to neither half, it is harmless and so leaves the queue alone.
one_left : (w : Watched) (mine : Blocks) (mode : Mode) (doers : List Doer) (e : Entry) (b : Bool) (calls : List Call)
    → OthersHarmless doers (with_call b e calls)
    → (b ≡ true → IsTrue (is_neither (doer_of true doers)) → LeavesRegisters w mode e.event × LeavesBlocks mine e.event)
    × OthersHarmless (doers_after b doers) calls
one_left w mine mode doers e b calls harmless = grind (arith, common_steps, left)

pub harmless_leave_alone : HarmlessLeaveAlone
harmless_leave_alone w mine s doers [] harmless = tt
harmless_leave_alone w mine s doers (e ∷ es) harmless =
    let b = e.pass == w.pass in
    let here = one_left w mine (mode_in s.registers) doers e b (calls_of w.pass es)
    (subst (OthersHarmless doers) (calls_are w.pass e es b refl) harmless) in (
      λ own. here.0 (eq-eqb e.pass w.pass own),
      harmless_leave_alone w mine (after s e.event) (doers_after b doers) es here.1,
    )

-- Calls that lead both halves on, and that lend only what a driver's own calls may lend.

-- The calls after `old` led the halves from `h` to `k` in this way.
pub record LeadsApart (own : Blocks) (old : List Call) (h : Halves) (new : List Call) (k : Halves) : Type 0 where
  pub leads : Leads old h new k
  pub apart : AllLendApart own h leads.0 leads.1

-- The driver's calls lead the halves on this way.
pub driven_apart : (own : Blocks) (old new : List Call) (h k : Halves) → DrivesApart own old h new k
    → LeadsApart own old h new k
unfolding drives_lead
driven_apart own old new h k p = record { leads = drives_lead old new h k p.drives; apart = p.apart }

-- Harmless calls, which lend nothing, lead the halves on this way.

pub others_apart : (own : Blocks) (h : Halves) (calls : List Call) → AreHarmless calls
    → AllLendApart own h (doers_other calls) calls
others_apart own h [] harmless = tt
others_apart own h (c ∷ calls) harmless = search (rules, others_apart own h calls harmless.1)

pub harmless_apart : (own : Blocks) (old new : List Call) (h : Halves) → AddsHarmless old new
    → LeadsApart own old h new h
unfolding harmless_lead
harmless_apart own old new h (more, made, harmless) = record {
  leads = harmless_lead old new h (more, made, harmless);
  apart = others_apart own h more harmless;
}

-- If two sequences of calls each lead the halves on, the first followed by the second leads the halves on.
pub apart_leads_on : (own : Blocks) (old mid new : List Call) (h j k : Halves) → LeadsApart own old h mid j
    → LeadsApart own mid j new k → LeadsApart own old h new k
unfolding leads_on
apart_leads_on own old mid new h j k p q = record {
  leads = leads_on old mid new h j k p.leads q.leads;
  apart = grind (arith, common_steps, both_apart);
}

-- What holds between two entries: the device is sound and agrees with both halves, and the blocks that they have lent
-- are among `mine`.
pub record Meets (w : Watched) (mine : Blocks) (s : State) (out : List Piece) (sent : List (List ℕ))
    (h : Halves) : Type 0 where
  pub sound : IsSound s
  pub vfs : w.vfs ≡ s.vfs
  pub both : BothAgree w.queue s out sent h
  pub lent : AreLent mine h

-- These invariants hold at the end of the first entries of a driven history.
pub driven_meets : {w : Watched} {origin : State} {start rest : List Entry} {h : Halves} {doers : List Doer}
    → IsDriven w origin start rest h doers
    → Meets w (lent_by w.pass (start ++ rest)) (leads_to origin start) [] [] h
driven_meets {origin = origin} {start = start} {rest = rest} d =
    search (rules, histories_sound, events_before, vfs_stays)

pub may_move : (queue : ℕ) (s : State) (h : Halves) (m : Move) (e : Event Block) → is_elsewhere m ≡ false
    → sending.IsOwn h.transmit m e → IsEvent e → MayMove queue h.transmit s e m
may_move queue s h Elsewhere e real own made = cc
may_move queue s h m e real own made = (own, made)

-- Lemmas: an event of a half doesn't reset the queue's pool, nor does an event that leaves the queue's registers alone.

touch_resets : (dir : Dir) (queue : ℕ) (own : Blocks) (s : State) (e : Event Block) → Touches dir queue own s e
    → ResetsNoPool queue s e
touch_resets dir queue own s e is = grind (arith, common_steps, place)

spared_resets : (w : Watched) (s : State) → w.vfs ≡ s.vfs → (e : Event Block)
    → LeavesRegisters w (mode_in s.registers) e → ResetsNoPool w.queue s e
spared_resets w s vfs e left = grind (arith, common_steps, place_at, place_named)

-- What holds after an event: the device agrees with the halves, a side that was up still is, no setting was written,
-- and the queue's pool wasn't reset.
pub record Goes (w : Watched) (mine : Blocks) (s : State) (out : List Piece) (sent : List (List ℕ)) (e : Event Block)
    (k : Halves) : Type 0 where
  pub meets : Meets w mine (after s e) (out ++ pieces w.queue s e) (sent ++ sent_by w.queue s e) k
  pub receives : received.IsUp w.queue s → received.IsUp w.queue (after s e)
  pub sends : IsUp w.queue s → IsUp w.queue (after s e)
  pub setting : WritesNoSetting s e
  pub resets : ResetsNoPool w.queue s e

module _ {w : Watched} {mine : Blocks} {s : State} {out : List Piece} {sent : List (List ℕ)} {h : Halves}
    (m : Meets w mine s out sent h) (e : Event Block) (made : IsEvent e)
    (steps : WritesOutside w.queue mine (reply_to s e)) where
  -- Lemmas about an event that belongs to neither half.

  pub spared_by : (e : Event Block) → IsEvent e → LeavesRegisters w (mode_in s.registers) e → LeavesBlocks mine e
      → WritesOutside w.queue mine (reply_to s e) → Spares w.queue h.transmit s e
  spared_by event.RxStep is registers blocks outside =
      received_spares w.queue mine s m.sound out h.receive m.both.receive outside h.transmit m.lent.transmit
      m.both.apart
  spared_by e is registers blocks outside = left_alone_is_spared w mine h.transmit s e (search rules)

  pub neither_keeps : LeavesRegisters w (mode_in s.registers) e → LeavesBlocks mine e
      → BothAgree w.queue (after s e) (out ++ pieces w.queue s e) (sent ++ sent_by w.queue s e) h × AreLent mine h
  neither_keeps registers blocks =
      let met : IsMet w.queue s = record { small = m.both.transmit.1.based.small; sound = m.sound } in
      let left = free_left w mine s e met made m.vfs steps (registers, blocks) in
      search (rules, left_keeps, reports_spare, sparing_events_keep, spared_by)

  abbrev t : State
  t = after s e

  sender_blocks : (n : ℕ) → IsTrue (has_lent h.transmit n) → has_block s.memory n ≡ true
  sender_blocks = sender_lent s w.queue sent h.transmit m.both.transmit.0 m.both.transmit.1

  stays : IsSound t × (w.vfs ≡ t.vfs)
  stays = (keeps_sound s m.sound e made, m.vfs ∙ sym (step_leads s e).stays.vfs)

  stays_up : (move : Move) → MayMove w.queue h.transmit s e move → IsUp w.queue s → IsUp w.queue t
  stays_up move may up = up_stays s w.queue sent h.transmit e move m.both.transmit may up

  -- Lemmas about an event of the transmit half.

  sends_goes : (move : Move) → is_elsewhere move ≡ false → sending.IsOwn h.transmit move e
      → LendsOneOf mine e (reply_to s e)
      → Goes w mine s out sent e (record h { transmit = moved h.transmit move (reply_to s e) })
  sends_goes move real own lends =
      let (f, agrees) = m.both.transmit in
      let there = receive_lent w.queue s out h.receive m.both.receive in
      let touches = move_touches s w.queue sent h.transmit f agrees move e real own in
      let left = move_spares s w.queue sent h.transmit f agrees h.receive there m.both.apart e touches in
      let may = may_move w.queue s h move e real own made in
      let none = touch_pieces Tx w.queue (has_lent h.transmit) s e touches in
      let received : Agree w.queue t (out ++ pieces w.queue s e) h.receive =
      rw (none, append-nil out) (leaving_keeps w.queue s t out h.receive left m.both.receive) in
      let lent : AreLent mine (record h { transmit = moved h.transmit move (reply_to s e) }) =
      search (rules, mine-moved) in
      assumption (
        stays,
        moves_keep s w.queue sent h.transmit e move m.both.transmit may,
        sends_apart s h.receive h.transmit move e own there m.both.apart,
        left_up w.queue s t left.receive,
        stays_up move may,
        touch_setting Tx w.queue (has_lent h.transmit) s e touches,
        touch_resets Tx w.queue (has_lent h.transmit) s e touches,
      )

  -- Each call preserves the invariants, whichever half made it.
  pub doer_goes : (d : Doer) → OwnCall h d (call_of e (reply_to s e))
      → (is_neither d ≡ true → LeavesRegisters w (mode_in s.registers) e × LeavesBlocks mine e)
      → (is_neither d ≡ false → LendsOneOf mine e (reply_to s e))
      → Goes w mine s out sent e (after_call h d (call_of e (reply_to s e)))
  doer_goes Receives own others lends =
      let (gone, here, holds) = m.both.receive in
      let spares = own_spares w.queue s out h.receive gone here holds h.transmit sender_blocks m.both.apart e made own
      in
      let touches = own_touches w.queue s out h.receive gone here holds e own in
      let both : BothAgree w.queue t (out ++ pieces w.queue s e) (sent ++ sent_by w.queue s e)
      (after_call h Receives (call_of e (reply_to s e))) =
      search (rules, own_keeps, sparing_events_keep, receives_apart, sender_blocks) in
      let lent : AreLent mine (after_call h Receives (call_of e (reply_to s e))) =
      search (rules, mine_driven mine h.receive m.lent.receive e (reply_to s e) own (lends refl)) in
      assumption (
        stays,
        own_stays_up w.queue s out h.receive e m.sound m.both.receive own,
        stays_up Elsewhere spares,
        touch_resets Rx w.queue (received_half.has_lent h.receive) s e touches,
      )
  doer_goes (Sends Elsewhere) own others lends =
      let (registers, blocks) = others refl in
      let spares = spared_by e made registers blocks steps in
      let up = alone_stays_up w s out h.receive e m.vfs m.sound m.both.receive registers in
      assumption (stays, neither_keeps registers blocks, stays_up Elsewhere spares, spared_resets w s m.vfs e registers)
  doer_goes (Sends move) own others lends = sends_goes move refl own (lends refl)

-- After a value is written to an enable register of the queue, the device still agrees with both halves.
pub enable_words_keep : EnableWordsKeep
enable_words_keep queue s Rx port n word out sent h made names may both =
    let e : Event Block = event.Write port n word in
    let g = ground queue s port n word Rxdctl names refl in
    let stays = λ (b : ℕ) (has : IsTrue (received_half.has_lent h.receive b)).
    ap (λ (m : Memory). map.get m b) g.memory in
    let is = asked queue s both.transmit.1.based.sound both.transmit.1.based.small port n word Rx names in
    let spares : Spares queue h.transmit s e = record {
      made = made;
      setting = plain-write s port n word (place Rxdctl queue) 0xFFFFFFFF names refl;
      side = λ other switch.
          (write_rest s port n word (place Rxdctl queue) 0xFFFFFFFF names refl refl).transmit queue (λ x. cc);
      blocks = λ other number is. ap (λ (m : Memory). map.get m number) g.memory;
    } in
    assumption (
      switching_keeps queue s (after s e) out h.receive
          (assumption (ap (λ (x : Side). x.ring) is, ap (λ (x : Side). x.control) is, g, stays)) both.receive,
      subst (λ xs. Agrees (after s e) queue xs h.transmit) (append-nil sent)
          (sparing_events_keep s queue sent h.transmit e both.transmit spares),
    )
enable_words_keep queue s Tx port n word out sent h made names may both =
    let g = ground queue s port n word Txdctl names refl in
    let stays = λ (b : ℕ) (has : IsTrue (received_half.has_lent h.receive b)).
    ap (λ (m : Memory). map.get m b) g.memory in
    let rest = (write_rest s port n word (place Txdctl queue) 0xFFFFFFFF names refl refl).receive queue (λ x. cc) in
    assumption (
      leaving_keeps queue s (after s (event.Write port n word)) out h.receive (assumption (rest, g, stays))
          both.receive,
      transmit_word_keeps s queue sent h.transmit port n word made names may both.transmit,
    )
