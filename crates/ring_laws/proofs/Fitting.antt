-- The frames that wait for a queue are no longer than a packet that the driver can take, and the written pieces fit
-- too.
use Rattle.ring_laws.specs.Prelude.{Block, Filled, Memory, WritesNoSetting, buffer_size_of}
use Rattle.ring_laws.specs.Prelude.{IsSound, Rx, Waiting, after, is_on, mode_in, piece_of, receive_queue_of, step_of}
use Rattle.ring_laws.{proofs.Deeds.step_cases, specs.Prelude.Event, specs.Prelude.Outcome, specs.Prelude.frame_limit}
use Rattle.{device_laws.proofs.KeptSettings.settings_stand, ring_laws.specs.Prelude.RingFault}
use Rattle.{ring_laws.specs.Prelude.rest_of}
use Rattle.ring_laws.{proofs.Lent.Changes, proofs.Lent.waiting_changed, specs.Prelude.State, specs.Prelude.has_queue}
use Rattle.pmd_access.specs.NicDevice.RxFilter.declared.target.Target.{Target}
use Rattle.pmd_access.proofs.DeviceLock.{NicDevice.Cases.either_way, NicDevice.QueueCases.filled_by}
use Rattle.pmd_access.proofs.DeviceLock.{NicDevice.QueueCases.received_cases, NicDevice.RxRing.Fills.takes_piece}
use Rattle.pmd_access.specs.NicDevice.Sound.{AreWaiting, IsBegunWhileOn, IsUnbegun}
use Rattle.pmd_access.specs.DeviceLock.{NicDevice.Arrival.let_in, NicDevice.RegisterFile.Settings.drops}
use Rattle.pmd_access.specs.DeviceLock.{NicDevice.Switching.without_part}
use Rattle.ring_laws.specs.Fitting.{AreFitting, FitsBlocks, FramesStayFitting, NoneBegunWhileOff, ResetsNoPool}
use Rattle.ring_laws.specs.{Joint.Holds, Pieces.AllFit, Pieces.Fits, Pieces.open_after, Pieces.pieces, ReceiveUp.IsUp}
use Rattle.ring_laws.{proofs.Foreign.no_fault, proofs.Foreign.ring_is, specs.Pieces.Piece, specs.ReceivePrelude.Receive}
use Rattle.ring_laws.{proofs.Kept.open_pushed, specs.Fitting.partial_on, specs.Pieces.first_of, specs.Pieces.reported_pieces}
use Rattle.std.proofs.Common.{All, List, Ok, Result, append-nil, arith, length-drop, not, true, ◌*◌, ◌+◌, ◌-◌, ◌≢◌, ◌⊎◌}
use Rattle.std.proofs.Common.{Bool, Err, [], cond, drop, eq-eqb, false, min, ne_eqb, sym, ◌==◌, ◌≡◌}
use Rattle.std.proofs.Common.{ap, filter, inl, inr, length, length-take, refl, subst, ℕ, ◌&&◌, ◌++◌, ◌<◌, ◌∙◌, ◌∷◌, ◌≤◌}
use Rattle.std.proofs.lemmas.List.Elements.{All-cons, All-filter, All-head, All-nil, All-push, All-tail}
use Rattle.std.proofs.lemmas.{Bool.and_parts, Bool.both_ways, Bool.cond_both, Bool.eqb-true, Grind.common_steps}
use Rattle.pmd_access.specs.NicDevice.declared.event.Event.TheVariants as event
use Rattle.pmd_access.specs.NicDevice.Receive as receive

-- A property of waiting frames that holds for each waiting frame, at any offset, and for each accepted frame still
-- holds for each waiting frame after an event.

module _ (P : Waiting → Type 0) (moved : (w : Waiting) (n : ℕ) → P w → P (record w { offset = n })) (s : State)
    (h : All P s.waiting) where
  waits : (w : Waiting) (others : List Waiting) → s.waiting ≡ w ∷ others → All P (w ∷ others)
  waits w others e = subst (All P) e h

  received_all : All P (after s event.RxStep).waiting
  unfolding step_of
  received_all = received_cases (λ (o : Outcome). All P o.state.waiting) s (record {
    idle = h;
    dropped = λ w others e why. All-tail P w others (waits w others e);
    slotless = λ w others e. All-tail P w others (waits w others e);
    fault = λ w others e fault. All-tail P w others (waits w others e);
    filled = λ w others e f is.
        let rest = All-tail P w others (waits w others e) in
        either_way (All P) f.end others (record w { offset = w.offset + f.len } ∷ others) rest
        (All-cons P _ others (moved w _ (All-head P w others (waits w others e))) rest);
  })

  parted_all : (on : ℕ) (ws : List Waiting) → All P ws → All P (without_part on ws)
  parted_all on [] all = all
  parted_all on (w ∷ others) all = either_way (All P) _ others (w ∷ others) (All-tail P w others all) all

  abbrev Comes : Event Block → Type 0
  Comes e =
      (frame : List ℕ) (t : Target) → e ≡ event.Arrive frame → length frame ≤ frame_limit s.registers
      → P (let_in frame t)

  all_changes : (e : Event Block) → Comes e → Changes (All P) s e
  all_changes event.RxStep comes = received_all
  all_changes (event.Write port n word) comes = λ p view is. record {
    device = λ asks. All-nil P;
    pool = λ asks. All-filter (λ w. not (has_queue (mode_in s.registers) p.index w.queue)) P s.waiting h;
  }
  all_changes (event.Arrive frame) comes = λ t low. All-push P s.waiting (let_in frame t) h (comes frame t refl low)
  all_changes (event.QueueStep Rx on) comes = λ off. parted_all on s.waiting h
  all_changes e comes = tt

  pub all_wait : (e : Event Block) → Comes e → All P (after s e).waiting
  all_wait e comes = waiting_changed (All P) s h e (all_changes e comes)

-- Therefore the frames that wait for a queue stay no longer than a packet that the driver can take.
pub frames_fit : (queue most : ℕ) (s : State) → frame_limit s.registers ≤ 2048 * most
    → All (FitsBlocks queue most) s.waiting → (e : Event Block) → All (FitsBlocks queue most) (after s e).waiting
frames_fit queue most s limit h e =
    all_wait (FitsBlocks queue most) (λ w n fits. fits) s h e (λ frame t is low own. omega (arith, low, limit))

-- The number of bytes written of the oldest waiting frame, if it belongs to a queue.

either_zero : (b : Bool) → let z : ℕ = 0 in cond b z z ≡ z
either_zero true = refl
either_zero false = refl

-- Of the first waiting frame, `n` bytes are written. The frame may leave the list if `n` is 0 or if it belongs to
-- another queue.
module _ (queue n : ℕ) where
  abbrev Has : List Waiting → Type 0
  Has ws = partial_on queue ws ≡ n

  unbegun : (ws : List Waiting) → All IsUnbegun ws → partial_on queue ws ≡ 0
  unbegun [] none = refl
  unbegun (w ∷ others) none = let is = (All-head IsUnbegun w others none).none in (grind arith)

  gone : (w : Waiting) (others : List Waiting) → AreWaiting (w ∷ others) → Has (w ∷ others)
      → (w.queue ≡ queue → n ≡ 0) → Has others
  gone w others are has none = grind (arith, unbegun)

  filtered : (f : Waiting → Bool) (ws : List Waiting) → AreWaiting ws → Has ws
      → ((x : Waiting) → x.queue ≡ queue → f x ≡ false → n ≡ 0) → Has (filter f ws)
  filtered f [] are has keeps = has
  filtered f (w ∷ others) are has keeps =
      cond_both (f w) (w ∷ filter f others) (filter f others) Has (λ kept. has)
      (λ no. gone w (filter f others) (are.0, All-filter f IsUnbegun others are.1) has (λ own. keeps w own no))

  pushed : (ws : List Waiting) (frame : List ℕ) (t : Target) → Has ws → Has (ws ++ let_in frame t ∷ [])
  pushed [] frame t has = either_zero ((let_in frame t).queue == queue) ∙ has
  pushed (w ∷ ws) frame t has = has

  parted : (on : ℕ) (ws : List Waiting) → AreWaiting ws → Has ws → (on ≡ queue → n ≡ 0) → Has (without_part on ws)
  parted on [] are has none = has
  parted on (w ∷ others) are has none =
      cond_both (w.queue == on && not (w.offset == 0)) others (w ∷ others) Has
      (λ is. gone w others are has (λ own. none (sym (eqb-true w.queue on (and_parts _ _ is).0) ∙ own))) (λ no. has)

  -- A piece of another queue's frame is written.
  elsewhere : (w : Waiting) (others : List Waiting) (f : Filled) → AreWaiting (w ∷ others) → Has (w ∷ others)
      → w.queue ≢ queue → Has (receive.after_piece w others f)
  elsewhere w others f are has ne = grind arith

  -- An event that isn't a receive step leaves the count of written bytes unchanged in two cases. In the first, no byte
  -- is written yet. In the second, the side is up, and the event neither writes a setting nor resets the queue's pool.
  module _ (s : State) (sound : IsSound s) (has : Has s.waiting) where
    abbrev Spared : Event Block → Type 0
    Spared e = (n ≡ 0) ⊎ (WritesNoSetting s e × ResetsNoPool queue s e × IsUp queue s)

    begun_changes : (e : Event Block) → Spared e → (e ≡ event.RxStep → Has (after s e).waiting) → Changes Has s e
    begun_changes event.RxStep spared step = step refl
    begun_changes (event.Write port n word) spared step = λ p view is. record {
      device = (grind arith);
      pool = λ asks.
          filtered (λ (w : Waiting). not (has_queue (mode_in s.registers) p.index w.queue)) s.waiting sound.waiting has
          (λ x own no. elim spared [
            | inl none ↦ none
            | inr k ↦
                absurd (both_ways _ no (ap not (ap (λ (q : ℕ). has_queue (mode_in s.registers) p.index q) own
                ∙ k.1 p view is asks)))
          ]);
    }
    begun_changes (event.Arrive frame) spared step = λ t low. pushed s.waiting frame t has
    begun_changes (event.QueueStep Rx on) spared step = grind (arith, parted)
    begun_changes e spared step = tt

    pub still_begun : (e : Event Block) → Spared e → (e ≡ event.RxStep → Has (after s e).waiting)
        → Has (after s e).waiting
    still_begun e spared step = waiting_changed Has s has e (begun_changes e spared step)

-- If no byte was written of a frame for the queue, this stays true through each event that writes no piece on the
-- queue.

none_received : (queue : ℕ) (s : State) → IsSound s → partial_on queue s.waiting ≡ 0
    → pieces queue s event.RxStep ≡ [] → partial_on queue (after s event.RxStep).waiting ≡ 0
unfolding step_of
none_received queue s sound none =
    let gone_first : (w : Waiting) (others : List Waiting) → s.waiting ≡ w ∷ others → partial_on queue others ≡ 0 =
    λ w others e.
    gone queue 0 w others (subst AreWaiting e sound.waiting) (subst (Has queue 0) e none) (λ own. refl) in
    received_cases (λ o. reported_pieces queue s.waiting o.reply ≡ [] → Has queue 0 o.state.waiting) s (record {
      idle = λ reported. none;
      dropped = λ w others e why reported. gone_first w others e;
      slotless = λ w others e reported. gone_first w others e;
      fault = λ w others e fault reported. gone_first w others e;
      filled = grind (arith, common_steps, elsewhere);
    })

pub begun_stays : (queue : ℕ) (s : State) → IsSound s → partial_on queue s.waiting ≡ 0 → (e : Event Block)
    → pieces queue s e ≡ [] → partial_on queue (after s e).waiting ≡ 0
begun_stays queue s sound none e reported = grind (arith, still_begun, none_received)

-- Frames that fit into the number of slots that the driver takes for a packet still fit after an event, and their
-- written pieces fit too.

-- One more piece fits.
fit-push : (most n : ℕ) (ps : List Piece) (p : Piece) → AllFit most n ps → Fits most (open_after n ps) p
    → AllFit most n (ps ++ p ∷ [])
fit-push most n [] p all fits = (fits, tt)
fit-push most n (q ∷ ps) p all fits = (all.0, fit-push most (cond q.end 0 (n + 1)) ps p all.1 fits)

-- The remaining part of a frame that doesn't end in this block.
more_left : (len rest frame offset n most : ℕ) → len ≡ min 2048 rest → len ≢ rest → rest ≡ frame - offset
    → offset ≡ 2048 * n → frame ≤ 2048 * most → (len ≡ 2048) × (n + 1 < most)
more_left len rest frame offset n most is part left begun short = grind arith

module _ (queue most : ℕ) (s : State) (out : List Piece) (v : Receive) (gone_by here : List Piece) (sound : IsSound s)
    (h : Holds queue s out v gone_by here) (up : IsUp queue s) (fit : AreFitting queue most s out) where
  abbrev n : ℕ
  n = open_after 0 out

  abbrev Goes : List Waiting → List Piece → Type 0
  Goes ws ps = (partial_on queue ws ≡ 2048 * open_after 0 (out ++ ps)) × AllFit most 0 (out ++ ps)

  abbrev Step : Outcome → Type 0
  Step o = Goes o.state.waiting (reported_pieces queue s.waiting o.reply)

  none_written : (ws : List Waiting) → Has queue (2048 * n) ws → Goes ws []
  none_written ws has = rw (append-nil out) (has, fit.pieces)

  -- The cases of a receive step, given the oldest waiting frame.
  module _ (w : Waiting) (others : List Waiting) (e : s.waiting ≡ w ∷ others) where
    are : AreWaiting (w ∷ others)
    are = subst AreWaiting e sound.waiting

    has : Has queue (2048 * n) (w ∷ others)
    has = subst (Has queue (2048 * n)) e fit.begun

    leaves : (w.queue ≡ queue → 2048 * n ≡ 0) → Goes others []
    leaves none = none_written others (gone queue (2048 * n) w others are has none)

    dropped_leaves : (drops s.registers w.queue && w.offset == 0) ≡ true → Goes others []
    dropped_leaves is = grind (arith, leaves, eqb-true, and_parts)

    fault_leaves : (fault : RingFault) → (filled_by s w).answer ≡ Err fault
        → receive.is_empty (receive_queue_of s.registers w.queue).ring ≡ false → Goes others []
    fault_leaves fault is some =
        leaves (λ own.
        let open_ring : receive.is_empty (receive_queue_of s.registers queue).ring ≡ false =
        subst (λ (q : ℕ). receive.is_empty (receive_queue_of s.registers q).ring ≡ false) own some in
        let room = (ring_is h).more open_ring in
        absurd (no_fault h room (rest_of w) fault (rw own at is)))

    -- A piece of a frame for the queue is written.
    module _ (f : Filled) (is : (filled_by s w).answer ≡ Ok f) (own : w.queue ≡ queue) where
      begun : w.offset ≡ 2048 * n
      begun = rw (eq-eqb w.queue queue own) at has

      taken : f.len ≡ min 2048 (length (drop w.offset w.frame))
      taken =
          let room = subst (λ q. buffer_size_of (receive_queue_of s.registers q).control ≡ 2048) (sym own)
          h.side.buffer_size in
          (takes_piece s.memory _ _ (rest_of w) f is).len ∙ ap (λ (k : ℕ). min k (length (drop w.offset w.frame))) room

      -- A piece that doesn't end its frame fills its block, and one more piece fits.
      goes_on : f.end ≡ false → (f.len ≡ 2048) × (n + 1 < most)
      goes_on on =
          more_left f.len (length (drop w.offset w.frame)) (length w.frame) w.offset n most taken
          (λ all. both_ways f.end on ((takes_piece s.memory _ _ (rest_of w) f is).end.1 all))
          (length-drop w.offset w.frame) begun
          (All-head (FitsBlocks queue most) w others (subst (All (FitsBlocks queue most)) e fit.waiting) own)

      abbrev piece : Piece
      piece = record { bytes = piece_of s.waiting f.len; first = first_of s.waiting; end = f.end }

      fits : Fits most n piece
      fits = grind (arith, goes_on, length-take, taken)

      next : (ends : Bool) → f.end ≡ ends
          → partial_on queue (cond ends others (record w { offset = w.offset + f.len } ∷ others))
          ≡ 2048 * cond ends 0 (n + 1)
      next true end = unbegun queue 0 others are.1 ∙ (let z : 0 ≡ 2048 * 0 = omega arith in z)
      next false end = grind (arith, goes_on, eq-eqb)

    writes : (f : Filled) → (filled_by s w).answer ≡ Ok f → (memory : Memory)
        → Step (receive.slot_done s w others (Ok f) memory)
    writes f is memory = grind (arith, eq-eqb, next, open_pushed, fit-push, fits, ne_eqb, none_written, elsewhere)

    answered : (answer : Result Filled RingFault) → (filled_by s w).answer ≡ answer
        → receive.is_empty (receive_queue_of s.registers w.queue).ring ≡ false → (memory : Memory)
        → Step (receive.slot_done s w others answer memory)
    answered (Ok f) is some memory = writes f is memory
    answered (Err fault) is some memory = fault_leaves fault is some

  received : Step (step_of s event.RxStep)
  received = step_cases Step s (record {
    idle = none_written s.waiting fit.begun;
    dropped = λ w others e off.
        leaves w others e (λ own. (grind arith));
    slotless = dropped_leaves;
    tried = λ w others e tried answer is. answered w others e answer is tried.some (filled_by s w).memory;
  })

  stays : (e : Event Block) → WritesNoSetting s e → ResetsNoPool queue s e → Goes (after s e).waiting (pieces queue s e)
  stays e none spares = grind (arith, received, none_written, still_begun)

pub frames_stay_fitting : FramesStayFitting
frames_stay_fitting queue most s out v e sound (gone, here, h) up fit none spares =
    let goes = stays queue most s out v gone here sound h up fit e none spares in
    record {
      limit = subst (λ n. n ≤ 2048 * most) (sym (settings_stand s e none).limit) fit.limit;
      waiting = frames_fit queue most s fit.limit fit.waiting e;
      begun = goes.0;
      pieces = goes.1;
    }

-- Nothing is written while the side is off.

off_begun : (queue : ℕ) (s : State) (ws : List Waiting) → All (IsBegunWhileOn s.registers) ws
    → is_on s.registers Rx queue ≡ false → partial_on queue ws ≡ 0
off_begun queue s [] since off = refl
off_begun queue s (w ∷ others) since off = grind (arith, All-head)

pub none_begun_while_off : NoneBegunWhileOff
none_begun_while_off queue s sound off = off_begun queue s s.waiting sound.begun off
