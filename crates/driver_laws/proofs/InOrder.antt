-- Lemmas about what the driver handed out and what it sent, over a history that leaves its queue alone.
use Rattle.driver_laws.proofs.StartPrelude.{AreLent, BothAgree, IsDriven, doer_of, doers_after, events_after}
use Rattle.driver_laws.proofs.StartPrelude.{leads-append}
use Rattle.driver_laws.proofs.StartPrelude.{legal_past, not_again, packets_of, sent_is_counted, since-append}
use Rattle.driver_laws.proofs.{Meeting.Goes, Meeting.Meets, Meeting.doer_goes, Meeting.driven_meets, Parts.calls_are}
use Rattle.driver_laws.specs.StartPrelude.{AllOwn, AreEvents, Block, Blocks, Call, Doer, Entry, Event, FindsNone}
use Rattle.driver_laws.specs.StartPrelude.{Halves}
use Rattle.driver_laws.specs.StartPrelude.{IsEvent, IsLegal, IsUp, LeavesBlocks, LeavesRegisters, OwnCall, Piece, Reply}
use Rattle.driver_laws.specs.StartPrelude.{Rx}
use Rattle.driver_laws.specs.StartPrelude.{ShowsNone, State, Tx, Watched, after, after_call, bytes_of, call_in, call_of}
use Rattle.driver_laws.specs.StartPrelude.{calls_of, delivered, is_neither, is_on, leads_to, lends, lent_by, mode_in}
use Rattle.driver_laws.specs.StartPrelude.{packets_if_any, pieces, pieces_in, pieces_since, played_by, records_of}
use Rattle.driver_laws.specs.StartPrelude.{reply_to}
use Rattle.driver_laws.specs.{Histories.NoneIsAllBefore, Histories.OthersLeaveAlone, Waiting.WaitingIsNotAll}
use Rattle.driver_laws.{proofs.Parts.with_call, specs.StartPrelude.sent_by, specs.StartPrelude.sent_in}
use Rattle.driver_laws.{specs.StartPrelude.sent_since}
use Rattle.ring_laws.proofs.InOrder.{all_taken, between, drained, grows, handed_first, lent_after, pieces-append}
use Rattle.ring_laws.proofs.InOrder.{first_sent, idle-all, sent_in-append, waiting-left}
use Rattle.ring_laws.specs.{Lent.LendsOneOf, Delivered.IsPrefixOf, Alone.AllAlone}
use Rattle.std.proofs.Common.{Bool, List, None, Some, [], ap, append_assoc, arith, false, inl, inr, nat_lt}
use Rattle.std.proofs.Common.{refl, rules, subst, sym, true, ℕ, ◌&&◌, ◌++◌, ◌∙◌, ◌∷◌, ◌≡◌}
use Rattle.std.proofs.lemmas.Bool.{cases_Bool, eqb-false, eqb-true, or_left, or_right}
use Rattle.std.specs.Prelude.{IsTrue, ◌==◌}
use Rattle.{ring_laws.proofs.Alone.alone_by_entries, std.proofs.lemmas.Grind.common_steps}
use Rattle.ring_laws.specs.Delivered as receive
use Rattle.ring_laws.specs.ReceiveUp as received
use Rattle.ring_laws.specs.Laws as transmit

-- If the pass lends a block, the block is among `mine`.
lends_mine : (pass : ℕ) (mine : Blocks) (own : ℕ) (e : Event Block) (r : Reply Block) → own ≡ pass → IsEvent e
    → ((n : ℕ) → IsTrue (nat_lt n 65536 && ((own == pass) && lends e r n)) → IsTrue (mine n))
    → LendsOneOf mine e r
lends_mine pass mine own e r same made all = grind (arith, common_steps)

-- Lemmas about the next call, and the calls after that.

pub record Next (h : Halves) (doers : List Doer) (e : Entry) (b : Bool) (following : List Call) : Type 0 where
  pub own : OwnCall h (doer_of b doers) (call_in e)
  pub rest : AllOwn (after_call h (doer_of b doers) (call_in e)) (doers_after b doers) following
  pub played : played_by h doers (with_call b e following)
      ≡ played_by (after_call h (doer_of b doers) (call_in e)) (doers_after b doers) following

next_call : (h : Halves) (doers : List Doer) (e : Entry) (b : Bool) (following : List Call)
    → AllOwn h doers (with_call b e following) → Next h doers e b following
next_call h doers e b following own = grind (arith, common_steps)

-- Lemmas about where a history leads from a point where the device and both halves agree.

-- The device agrees with both halves, and the blocks that they have lent are among `mine`. A side that was up before
-- these entries still is.
pub record Led (w : Watched) (mine : Blocks) (s : State) (out : List Piece) (sent : List (List ℕ)) (es : List Entry)
    (k : Halves) : Type 0 where
  pub both : BothAgree w.queue (leads_to s es) (out ++ pieces_in w.queue s es) (sent ++ sent_in w.queue s es) k
  pub lent : AreLent mine k
  pub receives : received.IsUp w.queue s → received.IsUp w.queue (leads_to s es)
  pub sends : IsUp w.queue s → IsUp w.queue (leads_to s es)
  pub since : received.IsUp w.queue s → (so_far : List Piece)
      → pieces_since w.queue s (Some so_far) es ≡ Some (so_far ++ pieces_in w.queue s es)
  pub counted : IsUp w.queue s → (so_far : List (List ℕ))
      → sent_since w.queue s so_far es ≡ so_far ++ sent_in w.queue s es

-- Entries of a history after a point where the device agrees with the halves. The history is legal. It leaves the queue
-- and the blocks `mine` alone except for the halves, which make their calls in the doers' order. The pass lends only
-- blocks of `mine`.
pub record Runs (w : Watched) (mine : Blocks) (s : State) (h : Halves) (doers : List Doer) (es : List Entry) : Type 0
  where
    pub legal : IsLegal s es
    pub events : AreEvents es
    pub alone : AllAlone w mine s es
    pub own : AllOwn h doers (calls_of w.pass es)
    pub others : OthersLeaveAlone w mine s doers es
    pub covers : (n : ℕ) → IsTrue (lent_by w.pass es n) → IsTrue (mine n)

-- The entries of a driven history after its first entries form such a run.
pub driven_runs : {w : Watched} {origin : State} {start rest : List Entry} {h : Halves} {doers : List Doer}
    → IsDriven w origin start rest h doers
    → Runs w (lent_by w.pass (start ++ rest)) (leads_to origin start) h doers rest
driven_runs {w = w} {origin = origin} {start = start} {rest = rest} d =
    search (rules, legal_past, events_after, alone_by_entries, lent_after)

-- Lemmas about the first entry.
module _ {w : Watched} {mine : Blocks} {s : State} {out : List Piece} {sent : List (List ℕ)} {h : Halves}
    {doers : List Doer} {e : Entry} {es : List Entry} (m : Meets w mine s out sent h)
    (r : Runs w mine s h doers (e ∷ es)) where
  abbrev pub first_doer : Doer
  first_doer = doer_of (e.pass == w.pass) doers

  abbrev pub first_after : Halves
  first_after = after_call h first_doer (call_in e)

  pub heads : calls_of w.pass (e ∷ es) ≡ with_call (e.pass == w.pass) e (calls_of w.pass es)
  heads = calls_are w.pass e es (e.pass == w.pass) refl

  next : Next h doers e (e.pass == w.pass) (calls_of w.pass es)
  next = next_call h doers e (e.pass == w.pass) (calls_of w.pass es) (subst (AllOwn h doers) heads r.own)

  pub played_on : played_by h doers (calls_of w.pass (e ∷ es))
      ≡ played_by first_after (doers_after (e.pass == w.pass) doers) (calls_of w.pass es)
  played_on = ap (played_by h doers) heads ∙ next.played

  pub runs_on : Runs w mine (after s e.event) first_after (doers_after (e.pass == w.pass) doers) es
  runs_on = search (rules, next, or_right)

  pub own_here : OwnCall h first_doer (call_of e.event (reply_to s e.event))
  own_here = rw r.legal.0 at next.own

  -- An entry that belongs to neither half leaves the queue alone.
  pub left_alone : is_neither first_doer ≡ true
      → LeavesRegisters w (mode_in s.registers) e.event × LeavesBlocks mine e.event
  left_alone neither = elim (cases_Bool (e.pass == w.pass)) [
    | inl own ↦ r.others.0 (eqb-true e.pass w.pass own) (rw own at neither)
    | inr other ↦
        let apart = eqb-false e.pass w.pass other in (r.alone.0.registers apart, r.alone.0.blocks apart)
  ]

  -- An entry that belongs to a half was made by the pass, and lends only blocks of `mine`.
  own_lends : is_neither first_doer ≡ false → LendsOneOf mine e.event e.reply
  own_lends half = elim (cases_Bool (e.pass == w.pass)) [
    | inl own ↦
        lends_mine w.pass mine e.pass e.event e.reply (eqb-true e.pass w.pass own) r.events.0
        (λ n is. r.covers n (or_left _ _ is))
    | inr other ↦ let never : true ≡ false = rw other at half in cc
  ]

  pub goes : Goes w mine s out sent e.event first_after
  goes =
      rw r.legal.0
      (doer_goes m e.event r.events.0 (rw r.legal.0 at r.alone.0.steps) first_doer own_here left_alone
      (λ half. rw r.legal.0 at (own_lends half)))

pub leads : {w : Watched} {mine : Blocks} (doers : List Doer) (es : List Entry) {s : State} {out : List Piece}
    {sent : List (List ℕ)} {h : Halves} → Meets w mine s out sent h → Runs w mine s h doers es
    → Led w mine s out sent es (played_by h doers (calls_of w.pass es))
leads {w = w} {mine = mine} [] [] {s = s} {out = out} {sent = sent} {h = h} m r =
    search rules
leads (d ∷ doers) [] m r = absurd r.own
leads {w = w} {mine = mine} doers (e ∷ es) {s = s} {out = out} {sent = sent} m r =
    let g = goes m r in
    let l = leads (doers_after (e.pass == w.pass) doers) es g.meets (runs_on m r) in
    let t = after s e.event in
    let ps = pieces w.queue s e.event in
    let fs = sent_by w.queue s e.event in
    subst (Led w mine s out sent (e ∷ es)) (sym (played_on m r)) (record {
      both = rw (← append_assoc out ps (pieces_in w.queue t es), ← append_assoc sent fs (sent_in w.queue t es)) l.both;
      lent = l.lent;
      receives = λ up. l.receives (g.receives up);
      sends = λ up. l.sends (g.sends up);
      since = λ up so_far.
          let stays = not_again (is_on s.registers Rx w.queue) (is_on t.registers Rx w.queue) (inl up.on) in
          rw (stays, ← append_assoc so_far ps) (l.since (g.receives up) (so_far ++ ps));
      counted = λ up so_far.
          let stays = not_again (is_on s.registers Tx w.queue) (is_on t.registers Tx w.queue) (inl up.on) in
          rw (stays, ← append_assoc so_far fs) (l.counted (g.sends up) (so_far ++ fs));
    })

module _ (w : Watched) (origin : State) (start rest : List Entry) (h : Halves) (doers : List Doer)
    (d : IsDriven w origin start rest h doers) where
  abbrev here : State
  here = leads_to origin start

  abbrev last : Halves
  last = played_by h doers (calls_of w.pass rest)

  pub led : Led w (lent_by w.pass (start ++ rest)) here [] [] rest last
  led = leads doers rest (driven_meets d) (driven_runs d)

  pub delivered_is : delivered w.queue origin (start ++ rest) ≡ packets_of (pieces_in w.queue here rest)
  delivered_is =
      ap packets_if_any (since-append w.queue origin None start rest
      ∙ ap (λ so_far. pieces_since w.queue here so_far rest) d.on ∙ led.since d.up [])

  agreed : BothAgree w.queue (leads_to origin (start ++ rest)) (pieces_in w.queue here rest) (sent_in w.queue here rest)
      last
  agreed = search (rules, here, rest, last, leads-append, led)

  pub handed_is_prefix : receive.IsPrefixOf last.receive.handed (delivered w.queue origin (start ++ rest))
  handed_is_prefix = rw delivered_is (handed_first w.queue _ _ last.receive agreed.receive)

  pub none_is_all_taken : ShowsNone (leads_to origin (start ++ rest)) last.receive
      → last.receive.handed ++ records_of last.receive.whole ≡ delivered w.queue origin (start ++ rest)
  none_is_all_taken shows = sym (all_taken w.queue _ _ last.receive agreed.receive shows) ∙ sym delivered_is

  pub none_is_all : FindsNone (leads_to origin (start ++ rest)) last.receive
      → last.receive.handed ≡ delivered w.queue origin (start ++ rest)
  none_is_all finds = sym (drained w.queue _ _ last.receive agreed.receive finds) ∙ sym delivered_is

  pub sent_is_prefix : transmit.IsPrefixOf (sent_in w.queue here rest) (bytes_of last.transmit.accepted)
  sent_is_prefix = first_sent _ w.queue _ last.transmit agreed.transmit

  pub idle_is_all_sent : last.transmit.outstanding ≡ [] → bytes_of last.transmit.accepted ≡ sent_in w.queue here rest
  idle_is_all_sent none = idle-all _ w.queue _ last.transmit agreed.transmit none

  pub counted_where_up : IsUp w.queue here
      → sent_since w.queue origin [] (start ++ rest) ≡ sent_since w.queue origin [] start ++ sent_in w.queue here rest
  counted_where_up up =
      sent_is_counted.joined w.queue origin [] start rest ∙ led.counted up (sent_since w.queue origin [] start)

pub none_is_all_before : NoneIsAllBefore
none_is_all_before w origin start before rest h early doers d e finds same =
    let here = leads_to origin start in
    between (played_by h early (calls_of w.pass before)).receive.handed (delivered w.queue origin (start ++ before)) _
    (handed_is_prefix w origin start before h early d)
    (rw (
      delivered_is w origin start before h early d,
      delivered_is w origin start (before ++ rest) h doers e,
      pieces-append w.queue here before rest,
    ) (grows [] (pieces_in w.queue here before) (pieces_in w.queue (leads_to here before) rest)))
    (sym (none_is_all w origin start (before ++ rest) h doers e finds) ∙ same)

pub waiting_is_not_all : WaitingIsNotAll
waiting_is_not_all w origin start rest more h doers d finds =
    waiting-left _ w.queue _ _ (agreed w origin start (rest ++ more) h doers d).transmit finds _ _
    (sent_in-append w.queue (leads_to origin start) rest more)
