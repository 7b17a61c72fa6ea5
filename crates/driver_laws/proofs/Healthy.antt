-- Lemmas: over a whole history, each driver call gets a healthy reply, because the waiting frames keep fitting, and
-- what a healthy reply relies on holds after each call. So no driver call ends with a faulty reply.
use Rattle.driver_laws.proofs.InOrder.{Runs, driven_runs, first_doer, goes, heads, own_here, played_on, runs_on}
use Rattle.driver_laws.proofs.Meeting.{Meets, driven_meets, others_apart, steps_harmless}
use Rattle.driver_laws.proofs.StartPrelude.{AreFitting, Deed, IsDriven, IsHealthy, IsUp, begun_stays, both_apart}
use Rattle.driver_laws.proofs.StartPrelude.{doer_of}
use Rattle.driver_laws.proofs.StartPrelude.{doers_after, events_before, gathered, keeps_sound, no_block}
use Rattle.driver_laws.proofs.StartPrelude.{none_begun_while_off, settings_stand}
use Rattle.driver_laws.specs.Before.{AreShort, FramesStayShortAlong, OnlyPassLends, OnlyPassLent}
use Rattle.driver_laws.specs.StartPrelude.{AllLendApart, AllOwn, AreEvents, Block, Blocks, Call, Doer, Elsewhere, Entry}
use Rattle.driver_laws.specs.StartPrelude.{Event, Halves, IsEvent, IsSound, LendsApart, LendsNone, Memory, Move}
use Rattle.driver_laws.specs.StartPrelude.{OnlyLent}
use Rattle.driver_laws.specs.StartPrelude.{OwnCall, Piece, Receive, Receives, Reply, Rx, Sends, State, Watched}
use Rattle.driver_laws.specs.StartPrelude.{WritesNoSetting, after, after_call, call_in, call_of, calls_of, doers_other}
use Rattle.driver_laws.specs.StartPrelude.{drive, either, is_on, leads_to, lends, pieces, pieces_since, played_by}
use Rattle.driver_laws.specs.StartPrelude.{reply_to}
use Rattle.driver_laws.specs.{Faults.NoFault, Healthy.AreHealthy, Healthy.IsUnshared, Healthy.OwnRepliesAreHealthy}
use Rattle.pmd_driver.{proofs.Followed.others_own, proofs.Followed.others_played, specs.Apart.is_healthy}
use Rattle.ring_laws.proofs.{Deeds.receiving_did, Lent.follows_known, Lent.only_lent_stays}
use Rattle.ring_laws.specs.{Delivered.goes_on, Fitting.partial_on, TransmitHealthy.LendsAgain, TransmitLent.SparesNumbers}
use Rattle.std.proofs.Common.{Bool, List, None, Option, Some, [], arith, false, nat_lt, refl, rules, subst, sym, true}
use Rattle.std.proofs.Common.{ℕ, ◌&&◌, ◌++◌, ◌==◌, ◌∷◌, ◌≡◌, ◌≢◌}
use Rattle.std.proofs.lemmas.Bool.{and_parts, both_ways, cond_both, eq-eqb, eqb-false, eqb-true, lt-ltb, not-true}
use Rattle.std.proofs.lemmas.{Bool.or_cases, Bool.or_left, Bool.or_right, Grind.common_steps, List.append_cancel_left}
use Rattle.pmd_driver.specs.DeviceLock.Alone.{lent_in}
use Rattle.pmd_driver.proofs.NicDevice.Cases.{either_way}
use Rattle.ring_laws.specs.Pieces.{AllFit}
use Rattle.{driver_laws.proofs.Parts.calls_joined, driver_laws.proofs.Parts.with_call, std.specs.Prelude.option_map}
use Rattle.{ring_laws.proofs.Fitting.frames_fit, ring_laws.proofs.Fitting.frames_stay_fitting, std.specs.Prelude.◌==◌}
use Rattle.pmd_driver.specs.NicDevice.declared.event.Event.TheVariants as event
use Rattle.pmd_driver.specs.PmdRx.Keeping as received
use Rattle.pmd_driver.specs.PmdTx.Sending as sending
use Rattle.ring_laws.proofs.Own as receive
use Rattle.ring_laws.proofs.ReceiveLent as receive_lent
use Rattle.ring_laws.proofs.Playing as transmit
use Rattle.ring_laws.proofs.TransmitLent as transmit_lent
use Rattle.driver_laws.specs.Healthy as healthy

-- A driver keeps its port and the number of its tail, and takes as many blocks for a packet as before.
pub drive_same : (v : Receive) (e : Event Block) (r : Reply Block)
    → ((drive v e r).layout.port ≡ v.layout.port) × ((drive v e r).layout.tail ≡ v.layout.tail)
    × ((drive v e r).layout.most ≡ v.layout.most)
drive_same v e r = grind (arith, common_steps, either_way)

pub most_after : (h : Halves) (d : Doer) (n : Call) → (after_call h d n).receive.layout.most ≡ h.receive.layout.most
most_after h d n = grind (arith, common_steps, drive_same)

-- If no piece was received since the side was enabled, no part of a waiting frame is written: no piece is received
-- while the side is off.

silent : (queue : ℕ) (s : State) → is_on s.registers Rx queue ≡ false → Deed Rx queue s event.RxStep
    → pieces queue s event.RxStep ≡ []
silent queue s off y = grind (arith, common_steps, both_ways)

off_silent : (queue : ℕ) (s : State) (e : Event Block) → IsSound s → is_on s.registers Rx queue ≡ false
    → pieces queue s e ≡ []
off_silent queue s e sound off = search (rules, silent, receiving_did)

-- Lemmas about an invariant over a history: no part of a waiting frame is written.

abbrev Unbegun : ℕ → State → Option (List Piece) → Type 0
Unbegun queue s so_far = so_far ≡ Some [] → partial_on queue s.waiting ≡ 0

none_more : (qs ps : List Piece) → qs ++ ps ≡ [] → (qs ≡ []) × (ps ≡ [])
none_more [] ps empty = (refl, empty)
none_more (q ∷ qs) ps empty = cc

module _ (queue : ℕ) (s : State) (e : Event Block) (sound : IsSound s) where
  went_on : goes_on queue s (after s e) ≡ true → partial_on queue (after s e).waiting ≡ 0
  went_on goes = grind (arith, common_steps, not-true, and_parts, begun_stays, none_begun_while_off, off_silent)

  stayed : (so_far : Option (List Piece)) → Unbegun queue s so_far
      → Unbegun queue (after s e) (option_map (λ (qs : List Piece). qs ++ pieces queue s e) so_far)
  stayed so_far before is = search (rules, none_more, begun_stays)

unbegun_on : (queue : ℕ) (s : State) (so_far : Option (List Piece)) (es : List Entry) → IsSound s → AreEvents es
    → Unbegun queue s so_far → pieces_since queue s so_far es ≡ Some [] → partial_on queue (leads_to s es).waiting ≡ 0
unbegun_on queue s so_far [] sound events before is = before is
unbegun_on queue s so_far (e ∷ es) sound events before is =
    let t = after s e.event in
    unbegun_on queue t (gathered queue s t (pieces queue s e.event) so_far) es
    (keeps_sound s sound e.event events.0) events.1
    (cond_both (goes_on queue s t) (Some [])
    (option_map (λ (qs : List Piece). qs ++ pieces queue s e.event) so_far) (Unbegun queue t)
    (λ goes is. went_on queue s e.event sound goes) (λ empty. stayed queue s e.event sound so_far before)) is

-- If no piece was received since the side was enabled, no part of a waiting frame is written.
pub unbegun_since : (queue : ℕ) (s : State) (es : List Entry) → IsSound s → AreEvents es
    → pieces_since queue s None es ≡ Some [] → partial_on queue (leads_to s es).waiting ≡ 0
unbegun_since queue s es sound events is = unbegun_on queue s None es sound events (λ e. cc) is

-- If only the blocks that either half has lent are lent, the same is true with the halves in the other order.
swapped : (own xs ys : Blocks) (m : Memory) → OnlyLent own (either xs ys) m → OnlyLent own (either ys xs) m
swapped own xs ys m only n is has = grind (arith, common_steps)

module _ {w : Watched} {mine : Blocks} {s : State} {out : List Piece} {sent : List (List ℕ)} {h : Halves} (own : Blocks)
    (m : Meets w mine s out sent h) (known : OnlyLent own (healthy.lent_by h) s.memory) (e : Event Block) where
  abbrev rx : Blocks
  rx = received.has_lent h.receive

  abbrev tx : Blocks
  tx = sending.has_lent h.transmit

  other_first : OnlyLent own (either tx rx) s.memory
  other_first = swapped own rx tx s.memory known

  -- If a move lends a block, the block wasn't lent before.
  again : (move : Move) → sending.IsOwn h.transmit move e → LendsApart own h (Sends move) e → LendsAgain s move e
  again Elsewhere mine apart = tt
  again move mine apart =
      transmit_lent.own_lends_are_known.again own rx s h.transmit move e other_first mine (grind (arith, common_steps))

  pub healthy_call : (d : Doer) → OwnCall h d (call_of e (reply_to s e)) → LendsApart own h d e
      → AllFit h.receive.layout.most 0 out → IsHealthy h d (call_of e (reply_to s e))
  healthy_call Receives mine apart fit =
      receive.own_replies_are_healthy w.queue s out h.receive e m.both.receive fit mine
      (receive_lent.own_lends_are_known.again own tx s h.receive e known mine (search rules))
  healthy_call (Sends move) mine apart fit =
      transmit.own_replies_are_healthy s w.queue sent h.transmit move e m.both.transmit mine (again move mine apart)

  -- Only blocks that the halves have lent are lent.
  move_known : (move : Move) → sending.IsOwn h.transmit move e → SparesNumbers own move e
      → OnlyLent own (either rx (sending.has_lent (sending.moved h.transmit move (reply_to s e)))) (after s e).memory
  move_known move mine spares =
      swapped own (sending.has_lent (sending.moved h.transmit move (reply_to s e))) rx (after s e).memory
      (transmit_lent.own_lends_are_known.kept own rx s h.transmit move e other_first mine spares)

  pub known_after : (d : Doer) → OwnCall h d (call_of e (reply_to s e)) → LendsApart own h d e
      → OnlyLent own (healthy.lent_by (after_call h d (call_of e (reply_to s e)))) (after s e).memory
  known_after Receives mine apart = receive_lent.own_lends_are_known.kept own tx s h.receive e known mine
  known_after (Sends Elsewhere) mine apart = move_known Elsewhere mine (search rules)
  known_after (Sends move) mine apart = move_known move mine tt

-- Lemmas about the entries before the point where the device agrees with both halves.

-- The waiting frames stay short over one event.
pub frames_stay_short : (queue most : ℕ) (s : State) (e : Event Block) → AreShort queue most s → WritesNoSetting s e
    → AreShort queue most (after s e)
frames_stay_short queue most s e h none =
    record { limit = rw (settings_stand s e none).limit h.limit; waiting = frames_fit queue most s h.limit h.waiting e }

pub frames_stay_short_along : FramesStayShortAlong
frames_stay_short_along queue most s [] h none = h
frames_stay_short_along queue most s (e ∷ es) h none =
    frames_stay_short_along queue most (after s e.event) es (frames_stay_short queue most s e.event h none.0) none.1

pub lends_is : (b : Block) (r : Reply Block) (n : ℕ) → lends (event.Lend b) r n ≡ true → b.number ≡ n
lends_is b r n is = grind (arith, common_steps, eqb-true)

module _ (own known : Blocks) (s : State) (only : OnlyLent own known s.memory) where
  -- If an event of the pass lends a block, only that block is newly lent.
  pass_lent : (e : Event Block) → IsEvent e
      → OnlyLent own (either (λ n. nat_lt n 65536 && lends e (reply_to s e) n) known) (after s e).memory
  pass_lent e made =
      follows_known own known s no_block only e (λ r n. nat_lt n 65536 && lends e r n)
      (grind (arith, common_steps, lt-ltb, eq-eqb, eqb-true))

  entry_lent : (pass : ℕ) (e : Entry) → e.reply ≡ reply_to s e.event → IsEvent e.event
      → (e.pass ≢ pass → LendsNone own e.event) → (b : Bool) → (e.pass == pass) ≡ b
      → OnlyLent own (either known (lent_in pass e)) (after s e.event).memory
  entry_lent pass e legal made none b other n is has =
      grind (arith, common_steps, pass_lent, only_lent_stays, or_left, or_cases, or_right, eqb-false)

pub only_pass_lent : OnlyPassLent
only_pass_lent pass own known s [] legal events none only n is has = or_left (known n) false (only n is has)
only_pass_lent pass own known s (e ∷ es) legal events none only n is has =
    let later = only_pass_lent pass own (either known (lent_in pass e)) (after s e.event) es legal.1 events.1 none.1
    (entry_lent own known s only pass e legal.0 events.0 none.0 (e.pass == pass) refl) n is has in
    grind (arith, common_steps)

-- If all calls lend as the halves may, so do the first entry's call and the calls after it.
apart_here : (own : Blocks) (h : Halves) (doers : List Doer) (e : Entry) (b : Bool) (calls : List Call)
    → AllOwn h doers (with_call b e calls) → (b ≡ false → LendsNone own e.event)
    → AllLendApart own h doers (with_call b e calls)
    → LendsApart own h (doer_of b doers) e.event
    × AllLendApart own (after_call h (doer_of b doers) (call_in e)) (doers_after b doers) calls
apart_here own h doers e b calls did none apart = grind (arith, common_steps)

-- All replies are healthy if the later replies are, and if the first entry's reply is healthy whenever the entry
-- belongs to the pass.
all_here : (h : Halves) (doers : List Doer) (e : Entry) (b : Bool) (calls : List Call)
    → IsHealthy h (doer_of b doers) (call_in e)
    → AreHealthy (after_call h (doer_of b doers) (call_in e)) (doers_after b doers) calls
    → AreHealthy h doers (with_call b e calls)
all_here h doers e b calls here rest = search rules

-- Take the numbers that no other pass lends. Over entries, a block with such a number is lent only if the halves have
-- lent it. Replies are healthy if the waiting frames fit.
along : (own : Blocks) {w : Watched} {mine : Blocks} (doers : List Doer) (es : List Entry) {s : State}
    {out : List Piece} {sent : List (List ℕ)} {h : Halves} → Meets w mine s out sent h → Runs w mine s h doers es
    → OnlyLent own (healthy.lent_by h) s.memory → OnlyPassLends w.pass own es
    → AllLendApart own h doers (calls_of w.pass es)
    → (IsUp w.queue s → AreFitting w.queue h.receive.layout.most s out → AreHealthy h doers (calls_of w.pass es))
    × OnlyLent own (healthy.lent_by (played_by h doers (calls_of w.pass es))) (leads_to s es).memory
along own [] [] m r known none apart = (λ up fit. tt, known)
along own (d ∷ doers) [] m r known none apart = absurd r.own
along own {w = w} doers (e ∷ es) {s = s} {out = out} {h = h} m r known none apart =
    let b = e.pass == w.pass in
    let d = first_doer m r in
    let mine = own_here m r in
    let g = goes m r in
    let lends = apart_here own h doers e b (calls_of w.pass es) (subst (AllOwn h doers) (heads m r) r.own)
    (λ other. none.0 (eqb-false e.pass w.pass other)) (subst (AllLendApart own h doers) (heads m r) apart) in
    let following = along own (doers_after b doers) es g.meets (runs_on m r)
    (rw r.legal.0 (known_after own m known e.event d mine lends.0)) none.1 lends.1 in (
      λ up fit.
          subst (AreHealthy h doers) (sym (heads m r))
          (all_here h doers e b (calls_of w.pass es)
          (rw r.legal.0 (healthy_call own m known e.event d mine lends.0 fit.pieces))
          (following.0 (g.receives up)
          (rw (most_after h d (call_in e))
          (frames_stay_fitting w.queue h.receive.layout.most s out h.receive e.event m.sound m.both.receive up fit
          g.setting g.resets)))),
      rw (played_on m r) following.1,
    )

pub own_replies_are_healthy : OwnRepliesAreHealthy
own_replies_are_healthy w origin start rest h doers own x apart =
    let d = x.driven in
    (along own doers rest (driven_meets d) (driven_runs d) x.known x.others apart).0 d.up
    (grind (arith, common_steps, unbegun_since, events_before))

-- Even if no frame is known to fit, a block of `own` is lent only if the halves have lent it.
pub known_along : (w : Watched) (origin : State) (start rest : List Entry) (h : Halves) (doers : List Doer)
    (own : Blocks) → IsDriven w origin start rest h doers
    → OnlyLent own (healthy.lent_by h) (leads_to origin start).memory → OnlyPassLends w.pass own rest
    → AllLendApart own h doers (calls_of w.pass rest)
    → OnlyLent own (healthy.lent_by (played_by h doers (calls_of w.pass rest)))
    (leads_to (leads_to origin start) rest).memory
known_along w origin start rest h doers own d known others apart =
    (along own doers rest (driven_meets d) (driven_runs d) known others apart).1

-- If all calls get healthy replies, so do those after the first few.
healthy_after : (h : Halves) (ds es : List Doer) (ms ns : List Call) → AllOwn h ds ms
    → AreHealthy h (ds ++ es) (ms ++ ns) → AreHealthy (played_by h ds ms) es ns
healthy_after h [] es [] ns own are = are
healthy_after h [] es (m ∷ ms) ns own are = absurd own
healthy_after h (d ∷ ds) es [] ns own are = absurd own
healthy_after h (d ∷ ds) es (m ∷ ms) ns own are = healthy_after (after_call h d m) ds es ms ns own.1 are.1

-- Before the call with the supposedly faulty reply, the halves lent only what they may lend. So the reply to that call
-- is healthy after all.
pub no_fault : NoFault
no_fault w origin start rest more h doers own old new f did apart made x =
    let there = played_by h doers (calls_of w.pass rest) in
    let since = f.drives.drives.1 in
    let steps = f.adds.0 in
    let last : Call = call_of f.event f.reply in
    let drove = f.drives.drives.0 in
    let ends = doers_other steps ++ f.doer ∷ [] in
    let made_last : calls_of w.pass more ≡ since ++ (steps ++ last ∷ []) =
    append_cancel_left old (calls_of w.pass more) (since ++ (steps ++ last ∷ [])) (grind (arith, common_steps)) in
    let end_apart : AllLendApart own (played_by there drove since) ends (steps ++ last ∷ []) =
    rw (← f.drives.drives.4)
    (both_apart own f.there (doers_other steps) (f.doer ∷ []) steps (last ∷ []) (others_own f.there steps)
    (others_apart own f.there steps (steps_harmless steps f.adds.2))
    (rw (← others_played f.there steps) (f.apart, tt))) in
    let all_apart : AllLendApart own h (doers ++ (drove ++ ends)) (calls_of w.pass (rest ++ more)) =
    grind (arith, common_steps, calls_joined, both_apart) in
    let all = subst (AreHealthy h (doers ++ (drove ++ ends))) (calls_joined w.pass rest more)
    (own_replies_are_healthy w origin start (rest ++ more) h (doers ++ (drove ++ ends)) own x all_apart) in
    let here = subst (AreHealthy there (drove ++ ends)) made_last
    (healthy_after h doers (drove ++ ends) (calls_of w.pass rest) (calls_of w.pass more) did all) in
    both_ways (is_healthy f.there f.doer last) f.sick
    (rw (others_played f.there steps)
    (healthy_after f.there (doers_other steps) (f.doer ∷ []) steps (last ∷ []) (others_own f.there steps)
    (grind (arith, common_steps, healthy_after))).0)
