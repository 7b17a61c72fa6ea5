-- Steps of the driver's own queue, and events that spare the driver, keep the agreement between the driver and the
-- device.
use Rattle.{ring_laws.proofs.Deeds.added-none, ring_laws.proofs.Deeds.side_did}
use Rattle.{device_laws.proofs.KeptSettings.settings_stand}
use Rattle.{device_laws.proofs.Standing.stays_within, ring_laws.proofs.Left.named-same}
use Rattle.{ring_laws.proofs.Left.transmit_left}
use Rattle.ring_laws.specs.Left.{Deed, Nothing, Rested, Rests, Shut, Shuts, Switched, Takes, Took, fetch_on}
use Rattle.ring_laws.specs.Prelude.{Block, Event, IsEvent, LeavesBlock, Outcome, State, TransmitQueue, Tx}
use Rattle.ring_laws.specs.Prelude.{WritesNoSetting, after, staged_by, transmit_queue_of}
use Rattle.ring_laws.specs.Sides.{IsTried, Side, as_wanted}
use Rattle.pmd_access.proofs.NicDevice.Steps.{keeps_sound}
use Rattle.pmd_access.specs.DeviceLock.{NicDevice.Transmit.with_frame, NicDevice.TxRing.Fetch.Outcome as Fetch}
use Rattle.pmd_tx.specs.Sending.{is_healthy}
use Rattle.ring_laws.proofs.Blocks.{fetch-segment, head_is, ring_is, segment_fetched, segment_outcome, shows-fetched}
use Rattle.ring_laws.proofs.{Blocks.shows-same, Blocks.slot-next, TransmitLent.frame_left}
use Rattle.ring_laws.specs.Agreeing.{Agrees, AgreesAt, IsBased, IsCutOff, IsInTurn, IsSetUp, SendsInOrder}
use Rattle.ring_laws.specs.TransmitPrelude.{Layout, Move, Segment, Sender, has_lent, moved, segment_at, side_of}
use Rattle.ring_laws.specs.{Agreeing.staged_with, Laws.SparingEventsKeep, Laws.StepsOfQueueKeep, ReceivePrelude.Kept}
use Rattle.ring_laws.specs.{Sent.frames_added, Sent.sent_by, Sparing.Spares, TransmitHealthy.LendsAgain}
use Rattle.ring_laws.specs.{TransmitPrelude.slot_at, TransmitUp.IsUp}
use Rattle.std.proofs.Common.{IsFalse, IsTrue, List, None, Some, [], ap, append-nil, arith, drop, drop_at, false}
use Rattle.std.proofs.Common.{if◌then◌else◌, inl, inr, length, map, refl, subst, sym, true, ℕ, ◌++◌, ◌+◌, ◌<◌, ◌∙◌, ◌∷◌}
use Rattle.std.proofs.lemmas.{Grind.common_steps, List.append-nil, List.drop_more, List.nil_from_length}
use Rattle.std.proofs.{Common.◌≡◌, lemmas.Bool.cases_Bool, lemmas.Bool.cases_lt, lemmas.Bool.eq-eqb}
use Rattle.std.specs.Prelude.{Bool, ◌==◌}
use Rattle.pmd_access.specs.NicDevice.declared.event.Event.TheVariants as event

-- The frames that a transmit step adds.

pub added-one : (out : List (ℕ × List ℕ)) (queue : ℕ) (bytes : List ℕ)
    → frames_added out (out ++ (queue, bytes) ∷ []) ≡ bytes ∷ []
added-one out queue bytes = ap (map (λ (f : ℕ × List ℕ). f.1)) (drop_at out ((queue, bytes) ∷ []) (length out) refl)

-- One frame, if a packet ends.
pub added-by : (out : List (ℕ × List ℕ)) (queue : ℕ) (ends : Bool) (bytes : List ℕ)
    → frames_added out (with_frame out queue (if ends then Some bytes else None)) ≡ (if ends then bytes ∷ [] else [])
added-by out queue true bytes = added-one out queue bytes
added-by out queue false bytes = added-none out

-- What an event that writes no setting preserves.

pub based-after : (s : State) (queue : ℕ) (l : Layout) (e : Event Block) → IsBased s queue l → IsEvent e
    → WritesNoSetting s e → IsBased (after s e) queue l
based-after s queue l e b made none =
    let stays = settings_stand s e none in
    assumption (
      keeps_sound s b.sound e made,
      named-same s (after s e) stays.mode (stays_within s e).vfs l.port l.tail ∙ b.tail,
      stays.limit ∙ b.limit,
    )

-- The effect of one of the driver's moves, given the result of the device's step. If the event can be made, the device
-- and the driver still agree, and a side that is up stays up. If a block to be lent isn't lent yet, the reply is that
-- of a healthy queue.
pub record Does (queue : ℕ) (s : State) (sent : List (List ℕ)) (v : Sender) (m : Move) (e : Event Block) (o : Outcome) :
    Type 0 where
  pub agree : IsEvent e → Agrees o.state queue sent (moved v m o.reply)
  pub up : IsUp queue s → IsUp queue o.state
  pub healthy : LendsAgain s m e → is_healthy m o.reply ≡ true

-- A transmit step of the driver's own queue that fetches the next segment.

module _ {s : State} {queue : ℕ} {sent : List (List ℕ)} {v : Sender} {f : ℕ} (h : AgreesAt s queue sent v f) where
  abbrev side : TransmitQueue
  side = transmit_queue_of s.registers queue

  abbrev staged : List ℕ
  staged = staged_by s queue

  abbrev x : Segment
  x = segment_at v f

  -- A side with a tried slot isn't cut off, and sends the next segment.

  module _ (tried : IsTried (side_of Tx queue s)) where
    posted : f < v.posted
    posted = (ring_is h).more tried.some

    turn : IsInTurn v.layout.limit staged sent (x ∷ drop (f + 1) v.outstanding) v.accepted
    turn = grind (arith, drop_more, posted)

    fetches : fetch_on s queue ≡ segment_outcome s.memory side.ring staged x
    fetches = fetch-segment h posted staged turn.packets

  -- A transmit step of the driver's queue meets no fault.
  pub never-shuts : (e : Event Block) → Shuts Tx queue s e → ⊥
  never-shuts e y = let clash = sym (ap (λ (o : Fetch). o.answer) (fetches y.tried)) ∙ y.fault.answer in cc

  module _ (e : Event Block) (y : Takes Tx queue s e) where
    abbrev u : State
    u = after s e

    staged_is : staged_by u queue ≡ staged_with staged x
    staged_is = grind (arith, common_steps, fetches)

    out_is : u.out ≡ with_frame s.out queue (segment_fetched side.ring staged x).frame
    out_is = grind (arith, fetches)

    side_is : transmit_queue_of u.registers queue
        ≡ record side { ring = record side.ring { head = slot_at v.layout (f + 1) } }
    side_is = grind (arith, slot-next, posted)

    pub takes-keeps : IsEvent e → WritesNoSetting s e → Agrees u queue (sent ++ sent_by queue s e) v
    takes-keeps made none = (
      f + 1,
      record {
        based = based-after s queue v.layout e h.based made none;
        set_up = subst (λ q. IsSetUp q v.layout v.posted (f + 1)) (sym side_is) (assumption h.set_up);
        counted = (grind (arith, posted y.tried));
        shows = (grind (arith, fetches, head_is, shows-fetched, posted));
        sends = (grind (arith, common_steps, staged_is, turn, added-by, out_is, eq-eqb));
      },
    )

-- An event that spares a driver keeps the agreement between the driver and the device.

-- Suppose that the staged bytes are unchanged, and that a side that was cut off is then disabled with no enable
-- request. Then the remaining segments are sent as before, or the side is still cut off.
pub sends_on : (s t : State) (queue : ℕ) (sent : List (List ℕ)) (limit : ℕ) (left : List Segment) (ks : List Kept)
    → staged_by t queue ≡ staged_by s queue
    → (IsCutOff (transmit_queue_of s.registers queue) sent left ks
    → IsFalse (transmit_queue_of t.registers queue).on × IsFalse (transmit_queue_of t.registers queue).wanted)
    → SendsInOrder s queue sent limit left ks → SendsInOrder t queue sent limit left ks
sends_on s t queue sent limit left ks h1 h2 h3 = grind arith

module _ {s : State} {queue : ℕ} {sent : List (List ℕ)} {v : Sender} {f : ℕ} (h : AgreesAt s queue sent v f)
    (e : Event Block)
  where
    abbrev t : State
    t = after s e

    abbrev left : List Segment
    left = drop f v.outstanding

    abbrev Sends : State → Type 0
    Sends u = SendsInOrder u queue sent v.layout.limit left v.accepted

    -- If the side's ring is unchanged and none of the driver's blocks changes, the device and the driver still agree,
    -- and no frame is added to those sent.
    pub still-agrees : IsEvent e → WritesNoSetting s e
        → IsSetUp (transmit_queue_of t.registers queue) v.layout v.posted f → Sends t
        → ((number : ℕ) → IsTrue (has_lent v number) → LeavesBlock number s t) → Agrees t queue sent v
    still-agrees made none set_up sends blocks = (
      f,
      assumption (
        based-after s queue v.layout e h.based made none,
        shows-same s.memory t.memory v f h.based.layout h.counted h.shows blocks,
      ),
    )

    -- A side that gets its requested state, and is thereby disabled during a packet, is cut off.

    -- The staged bytes are unchanged.
    same_sends : staged_by t queue ≡ staged_by s queue
        → IsInTurn v.layout.limit (staged_by s queue) sent left v.accepted → Sends t
    same_sends same x = inl (rw same x)

    switched_turn : side_of Tx queue t ≡ as_wanted (side_of Tx queue s)
        → IsInTurn v.layout.limit (staged_by s queue) sent left v.accepted → Sends t
    switched_turn is x = elim (cases_Bool (transmit_queue_of s.registers queue).wanted) [
      | inl wanted ↦ same_sends (ap (λ (y : Side). y.staged) is ∙ rw wanted refl) x
      | inr none ↦ elim (cases_lt 0 (length (staged_by s queue))) [
        | inl some ↦
            let frames = frame_left v.layout.limit (staged_by s queue) left some x.packets in
            (grind arith)
        | inr few ↦
            same_sends (ap (λ (y : Side). y.staged) is ∙ rw none (sym (nil_from_length (staged_by s queue)
            (omega arith)))) x
      ]
    ]

    switched_sends : side_of Tx queue t ≡ as_wanted (side_of Tx queue s) → Sends s → Sends t
    switched_sends is sends = grind (arith, switched_turn)

    rest_sends : Rests Tx queue s e → Sends t
    rest_sends (Nothing is) = grind arith
    rest_sends (Shut x) = absurd (never-shuts h e x)
    rest_sends (Switched is) = switched_sends is h.sends

    module _ (x : Spares queue v s e) where
      pub spared_did : Deed Tx queue s e
      spared_did =
          side_did Tx queue s e h.based.sound h.based.small
          (λ other apart. transmit_left queue s t (x.side other apart))

      by_deed : Deed Tx queue s e → Agrees t queue (sent ++ sent_by queue s e) v
      by_deed (Took y) = takes-keeps h e y x.made x.setting
      by_deed (Rested none rests) =
          rw (none.sent, append-nil sent)
          (still-agrees x.made x.setting (grind arith) (rest_sends rests) (λ number is. grind arith))

pub sparing_events_keep : SparingEventsKeep
sparing_events_keep s queue sent v e (f, h) x = by_deed h e x (spared_did h e x)

-- A transmit step of the driver's own queue spares the driver.
pub step_of_queue_keeps : StepsOfQueueKeep
step_of_queue_keeps s queue sent v (f, h) =
    let own : (queue == queue) ≡ true = eq-eqb queue queue refl in
    sparing_events_keep s queue sent v (event.TxStep queue) (f, h) (grind arith)
