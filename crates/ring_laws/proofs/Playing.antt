-- Each of the driver's moves keeps the agreement between the driver and the device, and gets the reply of a healthy
-- queue.
use Rattle.ring_laws.specs.Prelude.{Block, Event, State, Tdt, WritesNoSetting, after_write, place, reply_to, ring_of}
use Rattle.ring_laws.specs.Prelude.{Memory, named_written, step_of, transmit_queue_of}
use Rattle.ring_laws.{proofs.Left.plain-write, proofs.Lent.taken_is, specs.Prelude.gives, specs.Prelude.write_at}
use Rattle.ring_laws.{proofs.Lent.again_is_done, specs.Prelude.Outcome, specs.Prelude.TransmitQueue, specs.Prelude.Tx}
use Rattle.ring_laws.{proofs.Steady.up_kept, proofs.Written.transmit-tail, specs.Prelude.Port, specs.Prelude.read_at}
use Rattle.pmd_access.proofs.NicDevice.DmaArena.Bus.{of_some}
use Rattle.pmd_access.proofs.NicDevice.{Cases.lent_cases, DmaArena.Bus.get-remove_other, DmaArena.Bus.small_of_lent}
use Rattle.pmd_tx.specs.Sending.{MayLend, asked, is_healthy, reaped}
use Rattle.ring_laws.proofs.Blocks.{asking-waits, done-sent, later-layout, slot-below, slot_as_reported}
use Rattle.ring_laws.proofs.Blocks.{descriptor-later, slot-apart, slot_looked, slot_poked, written_here, written_stays}
use Rattle.ring_laws.proofs.TransmitLent.{count-accepted, early-accepted, known-accepted, lent_holds, sends-accepted}
use Rattle.ring_laws.proofs.{Blocks.Stays, Blocks.same_stays, Sparing.Does, Sparing.never-shuts, TransmitLent.first_at}
use Rattle.ring_laws.proofs.{Blocks.length-asking, Sparing.based-after, Sparing.spared_did, Sparing.sparing_events_keep}
use Rattle.ring_laws.specs.Agreeing.{AgreesAt, IsBased, IsCounted, IsSetUp, SendsInOrder}
use Rattle.ring_laws.specs.TransmitPrelude.{Advances, Kept, Looks, Move, Segment, Sender, asking, first_end, segment_at}
use Rattle.ring_laws.specs.TransmitPrelude.{Elsewhere, Reaps, descriptor_at, is_sent, no_segment, segments_of, slot_at}
use Rattle.ring_laws.specs.{Agreeing.Agrees, Laws.MovesKeep, TransmitPrelude.Lends, TransmitUp.IsUp, TransmitUp.UpStays}
use Rattle.ring_laws.specs.{Agreeing.IsLayout, TransmitPrelude.Asks, TransmitPrelude.IsOwn, TransmitPrelude.moved}
use Rattle.ring_laws.specs.{Agreeing.Shows, Sent.sent_by, TransmitHealthy.OwnRepliesAreHealthy, TransmitPrelude.Accepts}
use Rattle.std.proofs.Common.{Bool, List, ap, arith, drop, if◌then◌else◌, length, refl, subst, sym, ◌+◌, ◌-◌, ◌≢◌, ◌≤◌}
use Rattle.std.proofs.{Common.[], Common.slice_index_or, Common.true, Common.ℕ, Common.◌≡◌, lemmas.Grind.common_steps}
use Rattle.std.{proofs.Common.append-nil, proofs.Common.◌++◌, proofs.Common.◌∷◌, specs.Prelude.⊤, specs.Prelude.◌<◌}
use Rattle.pmd_access.specs.NicDevice.declared.event.Event.TheVariants as event
use Rattle.pmd_access.specs.NicDevice.declared.event.Reply.TheVariants as reply
use Rattle.std.specs.FinMap as fin

-- When the oldest segment is released after it was fetched, its block is taken back.

module _ (v : Sender) (g : ℕ) (l : IsLayout v.layout) (c : IsCounted v (g + 1)) where
  pub after : (k : ℕ) → segment_at (reaped v) k ≡ segment_at v (k + 1)
  after k = grind arith

  pub set_up-reaped : (side : TransmitQueue) → IsSetUp side v.layout v.posted (g + 1)
      → IsSetUp side (reaped v).layout (v.posted - 1) g
  set_up-reaped side u = grind arith

  pub counted-reaped : IsCounted (reaped v) g
  counted-reaped = grind (arith, after)

  -- Releasing the oldest segment leaves the same segments to be sent.
  pub dropped : drop (g + 1) v.outstanding ≡ drop g (drop 1 v.outstanding)
  dropped = grind arith

  -- Memory without the segment's block.

  module _ (m : Memory) (h : Shows m v (g + 1)) where
    abbrev pub without : Memory
    without = fin.remove m (segment_at v 0).block

    kept : Stays v.layout.ring v.layout.size m without (λ j. ⊤) (λ b. fin.get without b ≡ fin.get m b)
    kept =
        same_stays v.layout.ring v.layout.size m without
        (grind (arith, get-remove_other))

    pub shows-reaped : Shows without (reaped v) g
    shows-reaped = grind (arith, kept, after, get-remove_other, descriptor-later)

-- The driver's own moves keep the agreement between the driver and the device.

pub end-last : (ss : List Segment) → first_end ss < length ss
    → (slice_index_or ss (first_end ss) no_segment).part.last ≡ true
end-last [] below = absurd (omega arith)
end-last (x ∷ ss) below = grind (arith, end-last ss)

module _ {s : State} {queue : ℕ} {sent : List (List ℕ)} {v : Sender} {f : ℕ} (h : AgreesAt s queue sent v f) where
  -- The tail is written.

  abbrev slot : ℕ
  slot = slot_at v.layout v.poked

  -- The side has that tail, and is otherwise unchanged.
  side_moved :
      transmit_queue_of (after_write s.registers (place Tdt queue) 0xFFFFFFFF slot) queue
      ≡ record (transmit_queue_of s.registers queue) { ring = record (ring_of s.registers Tx queue) { tail = slot } }
  side_moved = grind (arith, transmit-tail)

  -- The effect of a move, given the result of the device's step. The move's event equals an event that writes no
  -- setting.

  abbrev pub Moves : Move → Event Block → Type 0
  Moves m e = Does queue s sent v m e (step_of s e)

  abbrev pub Keeps : Move → Outcome → Type 0
  Keeps m o = IsBased o.state queue v.layout → Agrees o.state queue sent (moved v m o.reply)

  pub by_outcome : (m : Move) (e d : Event Block) (o : Outcome) → e ≡ d → step_of s d ≡ o → WritesNoSetting s d
      → Keeps m o → (IsUp queue s → IsUp queue o.state) → is_healthy m o.reply ≡ true → Moves m e
  by_outcome m e d o same is none keeps up healthy =
      rw (same, is) (record {
        agree = λ made.
            keeps (subst (λ (u : Outcome). IsBased u.state queue v.layout) is
            (based-after s queue v.layout d h.based made none));
        up = up;
        healthy = λ again. healthy;
      })

  pub advance_one : (port : Port) (n word : ℕ) → IsOwn v Advances (event.Write port n word)
      → Moves Advances (event.Write port n word)
  unfolding step_of
  advance_one port n word own =
      by_outcome Advances (event.Write port n word) (event.Write port n word)
      (gives reply.Done (record s { registers = after_write s.registers (place Tdt queue) 0xFFFFFFFF slot })) refl
      (rw (own.2, own.3, own.4) (ap (λ m. named_written s m slot) h.based.tail))
      (plain-write s port n word (place Tdt queue) 0xFFFFFFFF (rw (own.2, own.3) h.based.tail) refl)
      (λ based. (
        f,
        record {
          based = based;
          set_up = subst (λ q. IsSetUp q v.layout v.poked f) (sym side_moved) (assumption h.set_up);
          counted = (grind arith);
          shows = assumption h.shows;
          sends = (grind (arith, side_moved));
        },
      )) (grind (arith, common_steps)) refl

  -- The descriptor of the next segment is written.

  module _ (more : v.poked < v.lent) where
    abbrev new : Memory
    new = write_at s.memory (descriptor_at v.layout v.poked) (asking (segment_at v v.poked))

    here : slot < v.layout.size
    here = slot-below v.layout h.based.layout v.poked (omega arith)

    stays : Stays v.layout.ring v.layout.size s.memory new (λ j. j ≢ slot) (λ b. ⊤)
    stays = written_stays v.layout.ring v.layout.size slot here s.memory _ (length-asking (segment_at v v.poked))

    other : (k : ℕ) → k < v.poked
        → read_at new (descriptor_at v.layout k) 16 ≡ read_at s.memory (descriptor_at v.layout k) 16
    other k before = grind (arith, stays, slot-below, slot-apart)

    shows-asked : Shows new (asked v) f
    shows-asked = grind (arith, stays, other, written_here, here, length-asking)

  -- A poll shows whether the oldest packet was sent.

  abbrev end : ℕ
  end = first_end v.outstanding

  abbrev descriptor : List ℕ
  descriptor = read_at s.memory (descriptor_at v.layout end) 16

  module _ (posted : end < v.posted) where
    known : end < v.lent
    known = omega (arith, h.counted.posted_poked, h.counted.poked_lent)

    -- A poll of the end of the oldest outstanding packet shows whether it was fetched.
    pub look-fetched : end < f → is_sent descriptor ≡ true
    look-fetched before = grind (arith, small_of_lent, end-last, done-sent)

    -- The segments that are reported done were fetched.
    done_tells : (b : Bool) → is_sent descriptor ≡ b → (if b then end + 1 else 0) ≤ f
    done_tells b is = grind (arith, asking-waits)

    -- A poll returns the bytes of the descriptor at the end of the oldest packet.
    pub look-tells : (bytes : List ℕ) → reply_to s (event.Peek16 (descriptor_at v.layout end)) ≡ reply.Bytes bytes
        → bytes ≡ descriptor
    look-tells bytes reported =
        slot_as_reported v.layout.ring v.layout.size (slot_at v.layout end)
        (slot-below v.layout h.based.layout end (omega (arith, known))) s bytes h.shows.ring reported

  fetched_known : f ≤ length v.outstanding
  fetched_known = let c = h.counted in omega (arith, c.fetched_posted, c.posted_poked, c.poked_lent, c.lent_known)

  -- A block is lent for the next of these segments, which begin with the segments whose blocks are lent.
  lent_agrees : (x : Segment) (b : Block) → MayLend v x b → (ss : List Segment) (ks : List Kept)
      → ((k : ℕ) → k < v.lent → slice_index_or ss k no_segment ≡ segment_at v k)
      → slice_index_or ss v.lent no_segment ≡ x → length ss < v.layout.size → v.lent < length ss
      → SendsInOrder s queue sent v.layout.limit (drop f ss) ks
      → IsBased (record s { memory = fin.insert s.memory b.number b.bytes }) queue v.layout
      → Agrees (record s { memory = fin.insert s.memory b.number b.bytes }) queue sent
      (record v { outstanding = ss; lent = v.lent + 1; accepted = ks })
  lent_agrees x b may ss ks early next room known sends based = (
    f,
    assumption (h.set_up, lent_holds s.memory v f h.based.layout h.counted h.shows x b may ss ks early next room known),
  )

  -- The oldest segment's block is taken back.
  reap_agrees : (g : ℕ) → AgreesAt s queue sent v (g + 1)
      → IsBased (record s { memory = fin.remove s.memory (segment_at v 0).block }) queue v.layout
      → AgreesAt (record s { memory = fin.remove s.memory (segment_at v 0).block }) queue sent (reaped v) g
  reap_agrees g at based =
      let l = at.based.layout in
      record {
        based = assumption (later-layout v.layout l, based);
        set_up = set_up-reaped v g l at.counted (transmit_queue_of s.registers queue) at.set_up;
        counted = counted-reaped v g l at.counted;
        shows = shows-reaped v g l at.counted s.memory at.shows;
        sends = rw (← dropped v g l at.counted) at.sends;
      }

  -- Each of the driver's own moves keeps the agreement.

  own_did : (m : Move) (e : Event Block) → IsOwn v m e → m ≢ Elsewhere → Moves m e
  unfolding step_of
  own_did (Accepts p) (event.Lend b) may ne = record {
    agree = λ made.
        lent_cases (Keeps (Accepts p)) s b (λ based. (f, h))
        (lent_agrees (slice_index_or (segments_of p) 0 no_segment) b may.first (v.outstanding ++ segments_of p)
        (v.accepted ++ p.kept ∷ []) (early-accepted v p b may) (first_at v p may.lent)
        (omega (arith, count-accepted v p b may, may.room)) (known-accepted v p b may)
        (sends-accepted v p b may f fetched_known sent s queue h.sends))
        (based-after s queue v.layout (event.Lend b) h.based made tt);
    up = λ up. lent_cases (λ o. IsUp queue o.state) s b up up;
    healthy = λ again. ap (is_healthy (Accepts p)) (again_is_done s b again);
  }
  own_did Lends (event.Lend b) own ne = record {
    agree = λ made.
        lent_cases (Keeps Lends) s b (λ based. (f, h))
        (lent_agrees (segment_at v v.lent) b own.1 v.outstanding v.accepted (λ k below. refl) refl h.counted.room own.0
        h.sends)
        (based-after s queue v.layout (event.Lend b) h.based made tt);
    up = λ up. lent_cases (λ o. IsUp queue o.state) s b up up;
    healthy = λ again. ap (is_healthy Lends) (again_is_done s b again);
  }
  own_did Asks (event.Poke16 a bytes) (more, address, bytes_are) ne =
      let x = segment_at v v.poked in
      let counted : IsCounted (asked v) f = (grind arith) in
      by_outcome Asks (event.Poke16 a bytes) (event.Poke16 (descriptor_at v.layout v.poked) (asking x)) _
      (λ k. event.Poke16 (address k) (bytes_are k))
      (slot_poked v.layout.ring v.layout.size slot (here more) s (asking x) h.shows.ring) tt
      (λ based. (f, assumption (counted, shows-asked more))) (λ up. up) refl
  own_did Advances (event.Write port n word) own ne = advance_one port n word own
  own_did Looks (event.Peek16 a) (posted, address) ne =
      let tells = done_tells posted (is_sent descriptor) refl in
      by_outcome Looks (event.Peek16 a) (event.Peek16 (descriptor_at v.layout end)) _ (ap event.Peek16 address)
      (slot_looked v.layout.ring v.layout.size (slot_at v.layout end)
      (slot-below v.layout h.based.layout end (omega (arith, known posted))) s h.shows.ring) tt
      (λ based. (f, assumption h)) (λ up. up) refl
  own_did Reaps (event.Take n) (done, number) ne =
      let some : 0 < v.lent = omega arith in
      let there = of_some (fin.get s.memory (segment_at v 0).block) (h.shows.ready 0 some).lent in
      let e : f ≡ (f - 1) + 1 = omega arith in
      by_outcome Reaps (event.Take n) (event.Take (segment_at v 0).block) _ (ap event.Take number)
      (taken_is s (segment_at v 0).block there.0 there.1) tt
      (λ based. (f - 1, reap_agrees (f - 1) (subst (AgreesAt s queue sent v) e h) based)) (λ up. up) refl
  own_did Elsewhere e own ne = absurd (ne refl)
  own_did m e own ne = absurd own

own_silent : (queue : ℕ) (s : State) (v : Sender) (m : Move) (e : Event Block) → IsOwn v m e → m ≢ Elsewhere
    → sent_by queue s e ≡ []
own_silent queue s v m e own ne = grind arith

-- After each move, the device and the driver still agree. A frame that the event sends is added to the frames sent.
pub moves_keep : MovesKeep
moves_keep s queue sent v e Elsewhere j may = sparing_events_keep s queue sent v e j may
moves_keep s queue sent v e m (f, h) may =
    rw (own_silent queue s v m e may.0 (λ is. cc), append-nil sent) ((own_did h m e may.0 (λ is. cc)).agree may.1)

-- A side that is up stays up.
pub up_stays : UpStays
up_stays s queue sent v e Elsewhere (f, h) may up = up_kept Tx queue s e up (never-shuts h e) (spared_did h e may)
up_stays s queue sent v e m (f, h) may up = (own_did h m e may.0 (λ is. cc)).up up

-- The replies are those of a healthy queue.
pub own_replies_are_healthy : OwnRepliesAreHealthy
own_replies_are_healthy s queue sent v Elsewhere e (f, h) own again = refl
own_replies_are_healthy s queue sent v m e (f, h) own again = (own_did h m e own (λ is. cc)).healthy again
