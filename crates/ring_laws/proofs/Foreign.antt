-- What happens when a slot of the driver's ring is filled, and at other events that aren't the driver's own. These
-- events meet no fault and keep the agreement; a piece that they write is added to the written pieces. A side that is
-- up stays up.
use Rattle.device_laws.proofs.{Delivered.reported-lt, KeptSettings.settings_stand, Standing.stays_within}
use Rattle.ring_laws.proofs.{Reports.IsSparedBy, Deeds.left_deed, Deeds.left_did, Deeds.side_did, Left.left-side}
use Rattle.{ring_laws.proofs.Reports.reported_elsewhere, device_laws.proofs.StandingQueues.switching_rest}
use Rattle.{ring_laws.proofs.Left.receive_of}
use Rattle.ring_laws.proofs.{Reports.spared_block, Deeds.switching_did, Left.receive_left, Steady.resting_same}
use Rattle.ring_laws.specs.Prelude.{AreApart, IsSound, LeavesBlock, Memory, Rest, RingFault, after, receive_queue_of}
use Rattle.ring_laws.specs.Prelude.{Block, Blocks, EntryLeavesAlone, Filled, Watched, rest_of, step_of}
use Rattle.ring_laws.specs.Prelude.{LeavesBlocks, ReceiveQueue, Reply, Rx, State, WritesNoSetting, mode_in, read_at}
use Rattle.ring_laws.specs.{Left.Deed, Left.Did, Prelude.Entry, Prelude.Event, Prelude.LeavesRegisters, Prelude.Mode}
use Rattle.ring_laws.specs.{Left.IsLeft, Left.Rested, Left.Rests, Left.Takes, Left.Took, Prelude.Tx, Prelude.Waiting}
use Rattle.ring_laws.{proofs.Deeds.receiving_did, proofs.Steady.up_kept, specs.Prelude.IsWhole, specs.Sides.IsTried}
use Rattle.ring_laws.{proofs.Left.left-setting, specs.Left.fill_on, specs.Prelude.Wrote, specs.Segments.piece_in}
use Rattle.pmd_access.proofs.NicDevice.{DmaArena.Blocks.is_lent_in, RxRing.Fills.writes_inside_slot}
use Rattle.pmd_access.proofs.NicDevice.{RxRing.Tests.fill_healthy}
use Rattle.pmd_access.proofs.NicDevice.RxRing.Fills.{driver_reads, fill_keeps_blocks, takes_piece}
use Rattle.pmd_access.specs.DeviceLock.{NicDevice.RxRing.Fill.buffer_address, NicDevice.RxRing.Laws.IsHealthy}
use Rattle.pmd_access.specs.DeviceLock.{NicDevice.Sound.AreWaiting}
use Rattle.pmd_access.proofs.Rings.{slot_block, slot_lies}
use Rattle.ring_laws.proofs.Blocks.{IsRingAt, Stays, buffer_and_slot, bytes_inside, reads_stay, slot_lent}
use Rattle.ring_laws.specs.ReceivePrelude.{Layout, Receive, block_at, descriptor_at, is_step, reach, slot_at}
use Rattle.ring_laws.specs.ReceiveUp.{EnableStepChangesNothing, LeavingStaysUp, OwnEventStaysUp, ReceiveStepStaysUp}
use Rattle.ring_laws.specs.Steps.{EnableStepKeeps, EntryKeeps, IsMetBy, OwnReportsSpare, ReceiveStepKeeps, SparesBlocks}
use Rattle.ring_laws.specs.{Inside.PieceIsInside, Joint.IsPosted, Pieces.Piece, Pieces.pieces, TransmitPrelude.side_of}
use Rattle.ring_laws.specs.{Joint.Agree, Joint.Holds, Joint.IsFilled, Joint.IsSetUp, Pieces.no_piece, Steps.Each}
use Rattle.ring_laws.{proofs.Kept.named_kept, proofs.Leaving.switching_keeps, specs.Joint.IsRing, specs.ReceiveUp.IsUp}
use Rattle.ring_laws.{proofs.Kept.posted_block, proofs.Kept.slot_below, specs.Joint.HasSlots, specs.Pieces.reported_pieces}
use Rattle.ring_laws.{proofs.Kept.posted_in, proofs.Kept.seen_longer, proofs.Own.own_did, specs.ReceiveUp.EntryStaysUp}
use Rattle.std.proofs.Common.{Err, Ok, [], ap, append_assoc, eq-eqb, inr, length, refl, subst, take, true, ℕ, ◌≢◌, ◌≤◌}
use Rattle.std.proofs.Common.{IsTrue, List, arith, inl, length-take-le, suc, sym, ◌*◌, ◌++◌, ◌/◌, ◌∙◌}
use Rattle.std.proofs.{Common.◌+◌, Common.◌<◌, Common.◌^◌, Common.◌≡◌, lemmas.List.get_or_push, lemmas.List.length_push}
use Rattle.std.proofs.{Common.◌∷◌, Common.◌⊎◌, lemmas.Bool.cases_lt, lemmas.Grind.common_steps, lemmas.List.append-nil}
use Rattle.pmd_access.specs.NicDevice.declared.event.Event.TheVariants as event
use Rattle.std.specs.FinMap as map
use Rattle.ring_laws.specs.Sides as sides

-- One more slot is filled: the other slots and their blocks are unchanged.
slots_more : (m n : Memory) (l : Layout) (here : List Piece) (p : Piece) → IsRing l → HasSlots m l here
    → length here < length l.blocks → IsFilled n (descriptor_at l (length here)) (block_at l (length here)) p
    → Stays l.ring l.size m n (λ j. j ≢ slot_at l (length here)) (λ b. b ≢ block_at l (length here))
    → HasSlots n l (here ++ p ∷ [])
slots_more m n l here p ring h low filled stays = record {
  there = λ k i. (grind arith);
  within = (grind (arith, common_steps));
  filled = λ k i. elim (cases_lt k (length here)) [
    | inl before ↦ (grind (arith, common_steps))
    | inr from ↦
        let e : k ≡ length here = omega (arith, length_push here p, i, from) in
        rw (e, get_or_push here p no_piece (length here) refl) filled
  ];
  posted = (grind (arith, common_steps));
}

-- A receive step on the driver's queue turns the first posted slot into the last filled slot. On another queue, the
-- step leaves the driver's queue alone.

-- The head of the queue is the first slot that isn't filled.
module _ {queue : ℕ} {s : State} {out : List Piece} {v : Receive} {gone here : List Piece}
    (h : Holds queue s out v gone here) where
  abbrev l : Layout
  l = reach v

  abbrev own : ReceiveQueue
  own = receive_queue_of s.registers queue

  -- A slot is posted.
  abbrev HasRoom : Type 0
  HasRoom = length here < length v.layout.blocks

  pub ring_is : IsRingAt own.ring l.ring l.size l.next (length here) (length v.layout.blocks)
  ring_is = grind (arith, common_steps)

  first_waits : HasRoom → IsPosted s.memory (descriptor_at l (length here)) (block_at l (length here))
  first_waits room = h.slots.posted (length here) (omega arith) (posted_in v (suc (length here)) room)

  pub buffer_is : HasRoom → buffer_address s.memory own.ring ≡ 2048 * block_at l (length here)
  buffer_is room = grind (arith, ring_is, first_waits)

  pub healthy : HasRoom → IsHealthy s.memory own.ring own.control
  healthy room =
      record {
        set_up = (grind (arith, common_steps));
        descriptor = (grind (arith, ring_is, slot_lent));
        buffer =
            rw (h.side.buffer_size, buffer_is room)
            (is_lent_in s.memory (2048 * block_at l (length here)) 2048 (block_at l (length here)) 0
            (first_waits room).there (omega arith) (omega arith));
      }

  -- A posted slot meets no fault.
  pub no_fault : HasRoom → (rest : Rest) (fault : RingFault) → (fill_on s queue rest).answer ≡ Err fault → ⊥
  no_fault room rest fault is = grind (arith, fill_healthy, healthy)

  -- Only the slot and its block changed: a piece was written to them.
  pub fills_here : HasRoom → IsWhole s.memory → (rest : Rest) (f : Filled) → rest.first < 2 ^ 64
      → (fill_on s queue rest).answer ≡ Ok f
      → IsFilled (fill_on s queue rest).memory (descriptor_at l (length here)) (block_at l (length here))
      (piece_in rest f)
      × Stays l.ring l.size s.memory (fill_on s queue rest).memory (λ j. j ≢ slot_at l (length here))
      (λ b. b ≢ block_at l (length here))
  fills_here room whole rest f fits is =
      let m : Memory = s.memory in
      let n : Memory = (fill_on s queue rest).memory in
      let b = block_at l (length here) in
      let t = takes_piece m own.ring own.control rest f is in
      let d = driver_reads m own.ring own.control rest f whole fits is in
      let same = (fill_keeps_blocks m own.ring own.control rest).0 in
      let desc : f.desc ≡ descriptor_at l (length here) = t.desc ∙ ring_is.head in
      let at : f.at ≡ 2048 * b = t.at ∙ buffer_is room in
      let short : f.len ≤ 2048 = omega (arith, t.len, h.side.buffer_size) in
      let long : length (take f.len rest.bytes) ≡ f.len = length-take-le f.len rest.bytes (omega (arith, t.len)) in
      let other = h.ring.not_ring (length here) (posted_in v (suc (length here)) room) in
      let low = slot_below l (length here) h.ring h.slots.within in
      let apart : AreApart f.at f.len f.desc 16 =
      rw (at, desc) (buffer_and_slot b f.len l.ring l.size (slot_at l (length here)) other short low) in
      let reads : (c k : ℕ) → AreApart c k (descriptor_at l (length here)) 16 → AreApart c k (2048 * b) f.len
      → read_at n c k ≡ read_at m c k =
      λ c k o u. (writes_inside_slot m own.ring own.control rest f is).reads c k (rw desc o) (rw at u) in
      let len = d.len ∙ sym long in
      let bytes : read_at n (2048 * b) (length (take f.len rest.bytes)) ≡ take f.len rest.bytes =
      rw (long, ← at) (d.bytes apart) in
      let few : length (take f.len rest.bytes) ≤ 2048 = rw long short in
      let there = same b ∙ (first_waits room).there in (
        subst (λ x. IsFilled n x b (piece_in rest f)) desc (assumption d),
        reads_stay l.ring l.size (slot_at l (length here)) b f.len m n low other short same reads,
      )

  pub head_on : HasRoom → (rest : Rest) (f : Filled) → (fill_on s queue rest).answer ≡ Ok f
      → f.head ≡ slot_at l (length here + 1)
  head_on room rest f is =
      let head = (takes_piece s.memory own.ring own.control rest f is).head in
      (grind arith)

  pub slot_left : IsTried (side_of Rx queue s) → HasRoom
  slot_left tried = ring_is.more tried.some

  -- The slot at the head of the driver's queue was filled: the head advanced, and the two agree on one more piece.
  pub filled_holds : IsSound s → (e : Event Block) → WritesNoSetting s e → (x : Takes Rx queue s e)
      → Holds queue (after s e) (out ++ piece_in (rest_of x.work.frame) x.work.filled ∷ []) v gone
      (here ++ piece_in (rest_of x.work.frame) x.work.filled ∷ [])
  filled_holds sound e none x =
      let rest = rest_of x.work.frame in
      let f = x.work.filled in
      let p : Piece = piece_in rest f in
      let n : Memory = (fill_on s queue rest).memory in
      let room = slot_left x.tried in
      let low = posted_in v (suc (length here)) room in
      let fits = reported-lt x.work.frame (subst AreWaiting x.work.first.waits sound.waiting).0 in
      let fill = fills_here room sound.blocks.whole rest f fits x.work.answer in
      let more = length_push here p in
      record {
        named = named_kept s (after s e) queue v.layout (settings_stand s e none).mode (stays_within s e).vfs h.named;
        ring = h.ring;
        side = subst (λ q. IsSetUp q v.layout (length (here ++ p ∷ []))) (sym (ap receive_of x.side))
            (assumption (
              h.side,
              sym (takes_piece s.memory _ _ rest f x.work.answer).head
                  ∙ head_on room rest f x.work.answer ∙ ap (slot_at v.layout) (sym more),
            ));
        posted = omega (arith, more, room);
        slots = subst (λ m. HasSlots m l (here ++ p ∷ [])) (sym x.work.memory)
            (slots_more s.memory n l here p h.ring h.slots low fill.0 fill.1);
        stage = (grind arith);
        order = (grind (arith, seen_longer, append_assoc));
      }

-- A device step isn't an event that writes a register by its number, or that takes or pokes a block.

pub no_registers : (w : Watched) (mode : Mode) (mine : Blocks) (e : Event Block) → is_step e ≡ true
    → LeavesRegisters w mode e × LeavesBlocks mine e
no_registers w mode mine e is = grind arith

-- An event keeps the agreement whatever it does to the queue's receive side. A piece that the event writes is added to
-- the written pieces.

module _ (queue : ℕ) (s : State) (out : List Piece) (v : Receive) (sound : IsSound s) (j : Agree queue s out v)
    (e : Event Block) (none : WritesNoSetting s e) where
  abbrev t : State
  t = after s e

  -- If no slot is taken, nothing of the receive side changes except whether it is on.
  pub rested : Rests Rx queue s e → Each v (λ b. LeavesBlock b s t) → Agree queue t out v
  rested rests blocks =
      let same = resting_same Rx queue s e rests in
      switching_keeps queue s t out v
      (assumption (same.ring, same.control, (settings_stand s e none).mode, (stays_within s e).vfs)) j

  pub deed_keeps : Deed Rx queue s e → (pieces queue s e ≡ [] → Each v (λ b. LeavesBlock b s t))
      → Agree queue t (out ++ pieces queue s e) v
  deed_keeps (Took x) blocks = subst (λ xs. Agree queue t (out ++ xs) v) (sym x.work.piece)
      (j.0, j.1 ++ piece_in (rest_of x.work.frame) x.work.filled ∷ [], filled_holds j.2 sound e none x)
  deed_keeps (Rested no_piece rests) blocks = rw (no_piece, append-nil out) (rested rests (blocks no_piece))

-- A receive step that writes no piece on the queue spares the driver's blocks.
spares_each : (queue : ℕ) (v : Receive) (ws : List Waiting) (r : Reply Block) → reported_pieces queue ws r ≡ []
    → SparesBlocks queue v r → Each v (λ b. IsSparedBy r b)
spares_each queue v ws r h1 h2 = grind arith

pub receive_keeps : ReceiveStepKeeps
receive_keeps queue s out v sound j spares = search (arith, deed_keeps, receiving_did, spared_block, spares_each)

-- A receive step on the driver's own queue writes into blocks that the driver has lent for it.

pub piece_inside : PieceIsInside
piece_inside queue s out v sound (gone, here, h) slot end desc at len is = elim (receiving_did queue s sound) [
  | Took x ↦
      let l = v.layout in
      let k = slot_at l (length here) in
      let f = x.work.filled in
      let room = slot_left h x.tried in
      let t = takes_piece s.memory _ _ (rest_of x.work.frame) f x.work.answer in
      let reported : Wrote queue f.slot f.end f.desc f.at f.len
      ≡ Wrote queue slot end desc at len = sym x.work.reported ∙ is in
      let short : f.len ≤ 2048 = omega (arith, t.len, h.side.buffer_size) in
      let desc_is : desc ≡ descriptor_at l (length here) = cc (reported, t.desc, (ring_is h).head) in
      let at_is : at ≡ 2048 * block_at l (length here) =
      cc (reported, t.at, buffer_is h room, posted_block v (length here) room) in
      let len_is : len ≡ f.len = cc reported in
      record {
        descriptor = rw desc_is (record {
          part = k / 128;
          known = slot_block l.size k (slot_below (reach v) (length here) h.ring h.slots.within);
          descriptor = slot_lies l.ring k;
        });
        slot = length here;
        known = room;
        bytes = rw (at_is, len_is) (bytes_inside (block_at l (length here)) f.len short);
      }
  | Rested none rests ↦ absurd (let e = rw (is, eq-eqb queue queue refl) at none in cc)
]

-- A step that enables or disables the queue's receive side keeps the agreement. If the side is on and no request to
-- disable it is pending, the step changes nothing.

pub enable_keeps : EnableStepKeeps
enable_keeps queue s out v sound j =
    rested queue s out v sound j (event.QueueStep Rx queue) tt (switching_did queue s sound j.2.named.low Rx)
    (λ b lent. ap (λ (m : Memory). map.get m b) (switching_rest s Rx queue).memory)

-- If the device and the driver agree, a receive side that is on, with no request to disable it pending, stays in this
-- state.

pub left_up : LeavingStaysUp
left_up queue s t left up = subst sides.IsUp (sym (receive_left queue s t left)) up

pub enable_same : EnableStepChangesNothing
unfolding step_of
enable_same queue s up = grind arith

deed_up : (queue : ℕ) (s : State) (out : List Piece) (v : Receive) (e : Event Block) → Agree queue s out v
    → Deed Rx queue s e → IsUp queue s → IsUp queue (after s e)
deed_up queue s out v e (gone, here, h) did up =
    up_kept Rx queue s e up (λ x.
    no_fault h (slot_left h x.tried) (rest_of x.fault.frame) x.fault.fault x.fault.answer) did

pub receive_stays_up : ReceiveStepStaysUp
receive_stays_up queue s out v sound j up = deed_up queue s out v event.RxStep j (receiving_did queue s sound) up

pub own_stays_up : OwnEventStaysUp
own_stays_up queue s out v e i j own up = (own_did queue s out v e j own).up i up

-- An event that leaves the queue's registers alone.
pub alone_stays_up : (w : Watched) (s : State) (out : List Piece) (v : Receive) (e : Event Block) → w.vfs ≡ s.vfs
    → IsSound s → Agree w.queue s out v → LeavesRegisters w (mode_in s.registers) e → IsUp w.queue s
    → IsUp w.queue (after s e)
alone_stays_up w s out v e vfs sound j registers up = search (arith, deed_up, side_did, left-side)

-- Entries that aren't the driver's own and leave the driver's queue alone keep the agreement.

module _ (queue : ℕ) (mine : Blocks) (s : State) (v : Receive) (sound : IsSound s)
    (m : Each v (λ b. IsTrue (mine b))) (spare : OwnReportsSpare queue v s) where
  -- Neither the queue's own reports nor what another queue's steps write is in one of the driver's blocks.
  spared : (e : Event Block) → Did queue mine s e → pieces queue s e ≡ [] → Deed Tx queue s e
      → Each v (λ b. LeavesBlock b s (after s e))
  spared e h1 h2 h3 = grind (arith, reported_elsewhere)

-- An event that leaves the queue and all these blocks alone.
pub left_keeps : (w : Watched) (mine : Blocks) (s : State) (out : List Piece) (v : Receive) (e : Event Block)
    → IsLeft w mine s e → Agree w.queue s out v → Each v (λ b. IsTrue (mine b)) → OwnReportsSpare w.queue v s
    → Agree w.queue (after s e) (out ++ pieces w.queue s e) v
left_keeps w mine s out v e x j m spare =
    let did = left_did w mine s e x in
    deed_keeps w.queue s out v x.sound j e (left-setting w s x.vfs e x.registers) did.receive
    (λ none. spared w.queue mine s v x.sound m spare e did none did.transmit)

-- An entry of another pass that leaves the queue and these blocks alone is such an event, and so is a step of any pass.
entry_left : (w : Watched) (mine : Blocks) (mode : Mode) (s : State) (e : Entry) → IsMetBy w mode s e → w.queue < 128
    → EntryLeavesAlone w mine mode e → (e.pass ≢ w.pass) ⊎ IsTrue (is_step e.event) → IsLeft w mine s e.event
entry_left w mine mode s e met small alone who = grind arith

pub entry_keeps : EntryKeeps
entry_keeps w mine mode s out v e met j m spare alone who =
    left_keeps w mine s out v e.event (entry_left w mine mode s e met j.2.named.low alone who) j m spare

pub entry_stays_up : EntryStaysUp
entry_stays_up w mine mode s out v e met j alone who =
    deed_up w.queue s out v e.event j
    (left_deed Rx w mine s e.event (entry_left w mine mode s e met j.2.named.low alone who))
