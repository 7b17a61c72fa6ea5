-- Lemmas: packets and frames stay in order during a driver's stop and after it. After the driver's life, neither side
-- is enabled again. The device and the driver still agree while the driver disables its sides. When both sides are off,
-- nothing more is delivered or sent on the queue. The packets that a stopped driver returns are also in order.
use Rattle.driver_laws.proofs.Reached.{LeadsOver, all_lead, free_left, reached, reached_next}
use Rattle.ring_laws.proofs.DeviceLaws.{KeptSettings.settings_stand, Standing.stays_within}
use Rattle.ring_laws.proofs.{Foreign.no_registers, Steady.deed_settles}
use Rattle.ring_laws.proofs.InOrder.{first_sent}
use Rattle.driver_laws.proofs.SwitchedOff.{ending_does, quiet_queue_is_silent, switching_off_leads}
use Rattle.driver_laws.proofs.{Ground.ground_names, InOrder.Runs, InOrder.driven_runs, InOrder.goes as entry_goes}
use Rattle.driver_laws.proofs.{InOrder.runs_on, Meeting.Meets, Meeting.driven_meets, Meeting.enable_words_keep}
use Rattle.driver_laws.proofs.{Meeting.neither_keeps, On.ground_at, Parts.more_some, Reached.KeptOver}
use Rattle.{ring_laws.proofs.InOrder.grows, ring_laws.proofs.Kept.each_map, driver_laws.proofs.CallKinds.stays_some}
use Rattle.driver_laws.{proofs.Ground.side_driven, specs.Histories.doers_after, specs.Moves.IsMet}
use Rattle.driver_laws.{specs.Standing.IsLeft}
use Rattle.pmd_driver.specs.PmdAccess.Packet.{Kept}
use Rattle.driver_laws.proofs.Order.{agree, begun, driven, ends, handed, in_parts, life_before, life_of, ran, settled}
use Rattle.driver_laws.proofs.Prelude.{AtEntries, AtPort, Block, Blocks, BothAgree, Call, Dir, Doer, Ended, EndsOnceOff}
use Rattle.driver_laws.proofs.Prelude.{Entry, Event, Halves, HasGround, IsAsking, IsEnding, IsEvent, IsOver, IsPrefixOf}
use Rattle.driver_laws.proofs.Prelude.{IsSettled, IsSilent, IsStopping, Life, List, None, Option, Piece, Rx, Settles}
use Rattle.driver_laws.proofs.Prelude.{Some, State, TakesOnceOff, Tx, Up, Watched, WritesOutside, [], after, append-nil}
use Rattle.driver_laws.proofs.Prelude.{arith, bytes_of, calls_of, common_steps, delivered, drives_lead, enable_row}
use Rattle.driver_laws.proofs.Prelude.{ending_plain, ground_kept, ground_same, halted_of, halves_of, inl, inr, leads_to}
use Rattle.driver_laws.proofs.Prelude.{left, left_settles, lent_before, lent_by, named, now, option_map, packets_if_any}
use Rattle.driver_laws.proofs.Prelude.{parts, pieces, pieces_since, plain_keeps, refl, reply_to, rules, sent_by}
use Rattle.driver_laws.proofs.Prelude.{sent_is_counted, sent_since, since-append, subst, sym, vfs_stays, ℕ, ◌++◌, ◌==◌}
use Rattle.driver_laws.proofs.Prelude.{◌∙◌, ◌∷◌, ◌≡◌, ◌≢◌}
use Rattle.driver_laws.proofs.StopCalls.{first_made, off_asks, stopped_ends}
use Rattle.driver_laws.proofs.{Order.some_on, Order.there_is, Order.whole, Prelude.AreLent, Prelude.Asks}
use Rattle.ring_laws.proofs.Steady as steady
use Rattle.ring_laws.specs.Delivered as receive
use Rattle.pmd_driver.specs.NicDevice.declared.event.Event.TheVariants as event

-- While the halves are led on, port and queue number identify the queue, and the frame limit stays the same, because no
-- entry writes a setting.
ground_along : {w : Watched} {mine : Blocks} (q : AtPort) (frame : ℕ) (doers : List Doer) (es : List Entry) {s : State}
    {out : List Piece} {sent : List (List ℕ)} {k : Halves} → Meets w mine s out sent k → Runs w mine s k doers es
    → HasGround w.queue q frame s → HasGround w.queue q frame (leads_to s es)
ground_along q frame doers [] m r g = g
ground_along {w = w} q frame doers (e ∷ es) {s = s} m r g =
    let next = entry_goes m r in
    ground_along q frame (doers_after (e.pass == w.pass) doers) es next.meets (runs_on m r)
    (search (rules, ground_same, settings_stand s e.event next.setting, stays_within))

-- A prefix of the packets so far remains a prefix when more pieces are received.
further : (xs : List Kept) (so_far : Option (List Piece)) (ps : List Piece)
    → receive.IsPrefixOf xs (packets_if_any so_far)
    → receive.IsPrefixOf xs (packets_if_any (option_map (λ qs. qs ++ ps) so_far))
further xs None ps is = is
further xs (Some qs) ps (one, is) = let (two, more) = grows [] qs ps in grind (arith, common_steps)

module _ (w : Watched) (origin : State) (q : AtPort) (frame : ℕ) where
  -- After an event from `s` to `t`, port and queue number identify the queue, and the event enabled neither side.
  record Moves (s t : State) : Type 0 where
    ground : HasGround w.queue q frame t
    settles : (dir : Dir) → Settles dir w.queue s t

  left_moves : (mine : Blocks) (s : State) (e : Event Block) → IsLeft w mine s e → HasGround w.queue q frame s
      → ((dir : Dir) → IsSettled dir w.queue s) → Moves s (after s e)
  left_moves mine s e left g is = search (rules, ground_kept, left_settles)

  ending_moves : (s : State) (e : Event Block) → IsMet w.queue s → IsEvent e → IsEnding q e
      → HasGround w.queue q frame s → ((dir : Dir) → IsSettled dir w.queue s) → Moves s (after s e)
  ending_moves s e met made ends g is =
      let settles = λ (dir : Dir).
      ending_does dir steady.IsSettled steady.Settles steady.same_settles
      (λ x y wanted same none p. steady.asked_settles x y wanted same none) (deed_settles dir) w.queue q frame s met
      g (is dir) e made ends in
      search (rules, plain_keeps, ending_plain, settles)

  -- Lemmas: a side that is on, or for which no enable request is in effect, isn't enabled again.
  module _ (handed : List Kept) where
    pub record Keeps (done : List Entry) : Type 0 where
      ground : HasGround w.queue q frame (reached w origin done)
      settled : (dir : Dir) → IsSettled dir w.queue (reached w origin done)
      pub ahead : receive.IsPrefixOf handed (delivered w.queue origin done)

    keeps_on : (done : List Entry) (e : Entry) → Moves (reached w origin done) (after (reached w origin done) e.event)
        → Keeps done → Keeps (done ++ e ∷ [])
    keeps_on done e m kept =
        let there = reached_next w origin done e in
        let ps = pieces w.queue (reached w origin done) e.event in
        record {
          ground = rw there m.ground;
          settled = λ dir. rw there (m.settles dir).settled;
          ahead =
              rw (since-append w.queue origin None done (e ∷ []), (m.settles Rx).never)
              (further handed (pieces_since w.queue origin None done) ps kept.ahead);
        }

    others_keep : (mine : Blocks) → KeptOver w origin mine Keeps
    others_keep mine done e left kept = search (rules, keeps_on, left_moves)

    ending_keeps : (mine : Blocks) (c : Call) → IsEnding q c.event → LeadsOver w origin mine c Keeps Keeps
    ending_keeps mine c own done e same met made reported steps kept =
        let ends : IsEnding q e.event = subst (λ (n : Call). IsEnding q n.event) (sym same) own in
        keeps_on done e (ending_moves (reached w origin done) e.event met made ends kept.ground kept.settled) kept

    -- Lemmas: the device and the driver agree while the driver disables its sides, counting the frames sent since the
    -- transmit side was enabled.
    module _ (mine : Blocks) (k : Halves) where
      abbrev sent : List Entry → List (List ℕ)
      sent done = sent_since w.queue origin [] done

      record Agree (done : List Entry) : Type 0 where
        kept : Keeps done
        out : List Piece
        both : BothAgree w.queue (reached w origin done) out (sent done) k
        lent : AreLent mine k

      -- What holds after one more event.
      record Next (done : List Entry) (e : Event Block) : Type 0 where
        moves : Moves (reached w origin done) (after (reached w origin done) e)
        out : List Piece
        both : BothAgree w.queue (after (reached w origin done) e) out
            (sent done ++ sent_by w.queue (reached w origin done) e) k

      agree_on : (done : List Entry) (e : Entry) → Agree done → Next done e.event → Agree (done ++ e ∷ [])
      agree_on done e x n =
          let more = sent_is_counted.joined w.queue origin [] done (e ∷ []) in
          record {
            kept = keeps_on done e n.moves x.kept;
            out = n.out;
            both = rw (reached_next w origin done e, more, (n.moves.settles Tx).never) n.both;
            lent = x.lent;
          }

      left_next : (done : List Entry) (e : Event Block) → IsLeft w mine (reached w origin done) e → Agree done
          → Next done e
      left_next done e left x =
          let m : Meets w mine (reached w origin done) x.out (sent done) k = search left in
          search (rules, left_moves, neither_keeps m e left.made left.steps left.registers left.blocks)

      asked_next : w.vfs ≡ origin.vfs → (done : List Entry) (e : Event Block) → IsMet w.queue (reached w origin done)
          → IsEvent e → IsAsking q e → WritesOutside w.queue mine (reply_to (reached w origin done) e) → Agree done
          → Next done e
      asked_next vfs done (event.Write port number word) met made (side, same, none, named) steps x =
          let s = reached w origin done in
          let names = ground_names w.queue q frame s x.kept.ground (enable_row side) number (side_driven side) named in
          record {
            moves =
                ending_moves s (event.Write port number word) met made (side, same, none, named) x.kept.ground
                x.kept.settled;
            out = x.out;
            both =
                rw (append-nil (sent done))
                (enable_words_keep w.queue s side port number word x.out (sent done) k made (rw same names)
                (grind arith) x.both);
          }
      asked_next vfs done e met made asks steps x =
          left_next done e (grind (arith, common_steps, free_left, reached, vfs_stays, no_registers)) x

      others_agree : KeptOver w origin mine Agree
      others_agree done e left x = agree_on done e x (left_next done e.event left x)

      asking_agrees : w.vfs ≡ origin.vfs → (c : Call) → IsAsking q c.event → LeadsOver w origin mine c Agree Agree
      asking_agrees vfs c own done e same met made reported steps x =
          agree_on done e x
          (asked_next vfs done e.event met made (subst (λ (n : Call). IsAsking q n.event) (sym same) own)
          (subst (WritesOutside w.queue mine) reported steps) x)

-- The blocks that the halves have lent are still among those that the pass lends if the history continues.
more_lent : (pass : ℕ) (g h : List Entry) (k : Halves) → AreLent (lent_by pass g) k → AreLent (lent_by pass (g ++ h)) k
more_lent pass g h k x = grind (arith, common_steps, each_map, lent_before)

-- At least one call was made in a life.
made_some : (x : Life) → x.made ≢ []
made_some x none = more_some x.is.up.on.mid (whole x).1 (some_on (begun x)) (sym (whole x).2 ∙ none)

module _ (x : Life) (new : List Call) (y : IsStopping x new) where
  open x use {w, origin, h, q, frame, made, k}

  abbrev Here : List Entry → Type 0
  Here = Keeps w origin q frame k.receive.handed

  abbrev There : List Entry → Type 0
  There = Agree w origin q frame k.receive.handed (lent_by w.pass h) k

  -- The invariant holds at the end of the life.
  lived_at : AtEntries w h made There
  lived_at done rest all calls =
      let r = ran (life_before x done rest all made k x.is.since) in
      let p = in_parts r calls in
      let d = driven r p in
      let ground = ground_along q frame r.goes.0 p.back (driven_meets d) (driven_runs d)
      (ground_at r.up r.along r.ground p.front p.back p.both p.fronts) in record {
        kept = record { ground = rw (← there_is r calls) ground; settled = settled r calls; ahead = handed r calls };
        out = _;
        both = agree r calls;
        lent = rw (← all) (more_lent w.pass done rest k (ends r calls).lent);
      }

  pub over_stop : Here h
  over_stop =
      all_lead w origin h Here (λ c. IsEnding q c.event) x.is.along (others_keep w origin q frame _ _)
      (ending_keeps w origin q frame _ (lent_by w.pass h)) y.ends.0 made y.ends.2 (made_some x)
      (λ done rest all calls. (lived_at done rest all calls).kept) h [] (append-nil h) (y.calls ∙ y.ends.1)

  over_asks : (now : List Call) → Asks q made now → AtEntries w h now There
  over_asks now (calls, is, each) =
      rw is
      (all_lead w origin h There (λ c. IsAsking q c.event) x.is.along
      (others_agree w origin q frame _ _ k) (asking_agrees w origin q frame _ _ k x.is.along.vfs) calls made each
      (made_some x)
      lived_at)

  -- After both sides are off, nothing more is received or sent.
  pub silent_off : (z : EndsOnceOff q made new) (done rest : List Entry) → done ++ rest ≡ h
      → calls_of w.pass done ≡ z.off → IsSilent w origin h done
  silent_off z done rest all calls =
      let asks = stays_some (IsAsking q) made z.mid z.asks (made_some x) in
      let quiet = switching_off_leads w q frame origin h z.mid z.off x.is.along z.switched asks
      (λ done more both made. (over_asks z.mid z.asks done more both made).kept.ground) in
      quiet_queue_is_silent w q frame origin h done rest z.off new x.is.along
      (stays_some (IsAsking q) made z.off (off_asks q made new z) (made_some x)) quiet z.ends y.calls all calls

  pub sent_over : TakesOnceOff q made new
      → IsPrefixOf (sent_since w.queue origin [] h) (bytes_of k.transmit.accepted)
  sent_over (inl asks) =
      first_sent _ w.queue _ k.transmit (over_asks new asks h [] (append-nil h) y.calls).both.transmit
  sent_over (inr z) =
      let p = parts w.pass h z.off z.ends.0 (y.calls ∙ z.ends.1) in
      rw ((silent_off z p.front p.back p.both p.fronts).sent)
      (first_sent _ w.queue _ k.transmit
      (over_asks z.off (off_asks q made new z) p.front p.back p.both p.fronts).both.transmit)

-- The driver's life, up to the point just before its stop.
abbrev pub life : Ended → Life
life x =
    let live = x.lived.lives in
    life_of x.course live.made live.fresh x.lived.made (halves_of x.lived.last)
    (record { along = x.along; up = live.up; begins = x.begins; since = drives_lead _ _ _ _ live.drives.apart.drives })

-- Lemmas: the calls after the life are calls of a stop, and take blocks back only after both sides have read as off.
module _ (x : Ended) (y : IsOver x) where
  open x use {q, new, lived}

  abbrev pub here : List Call
  here = lived.made ++ y.since

  pub is_stopping : IsStopping (life x) here
  is_stopping = record {
    ends =
        first_made (IsEnding q) lived.made _ new y.since y.rest
        (stopped_ends q lived.made (halted_of (Up lived.last)) new x.left x.late lived.stopped) refl y.all;
    calls = y.calls;
  }
