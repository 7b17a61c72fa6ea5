-- Lemmas about the blocks that the halves have lent. Each of these blocks is lent to the device, no block is lent by
-- both halves, and the pass lends all of them. An event of one half changes neither the other side nor blocks that the
-- half hasn't lent. Nor does a device step.
use Rattle.driver_laws.proofs.StartPrelude.{Done, IsOwn, Spares, Wrote, lent_cases, memory_blocks, memory_rest}
use Rattle.driver_laws.proofs.StartPrelude.{mine-moved}
use Rattle.driver_laws.proofs.StartPrelude.{mine_driven, plain-write, reach, settings_stand, stays_within, step_of}
use Rattle.driver_laws.proofs.StartPrelude.{word_of}
use Rattle.driver_laws.specs.StartPrelude.{Agree, Asks, Block, Blocks, Dir, EachRingBlock, Elsewhere, Event, IsEvent}
use Rattle.driver_laws.specs.StartPrelude.{IsSound, LeavesBlock, Move, Piece, Reaps, Receive, Register, Reply, Rx}
use Rattle.driver_laws.specs.StartPrelude.{Sender}
use Rattle.driver_laws.specs.StartPrelude.{State, Tx, WritesNoSetting, WritesOutside, after, drive, has_bit, has_block}
use Rattle.driver_laws.specs.StartPrelude.{has_lent, named, pieces, place, reply_to}
use Rattle.driver_laws.{proofs.StartPrelude.write_memory, proofs.StartPrelude.write_rest, specs.StartPrelude.Advances}
use Rattle.pmd_driver.proofs.NicDevice.{DmaArena.Inside.inside_avoids, DmaRing.Fields.halves_come_back}
use Rattle.pmd_driver.specs.NicDevice.{DmaArena.Memory.LiesIn, DmaRing.Driver.posted}
use Rattle.pmd_driver.specs.NicDevice.{RegTable.declared.rows.RowId.TheVariants.Tdwbal, RegisterFile.Queue.tail_row}
use Rattle.pmd_driver.proofs.PmdAccess.Rings.{each_ring_block, slot_block, slot_lies}
use Rattle.pmd_driver.specs.PmdTx.Sending.{blocks_of, descriptor_at, moved, no_segment, segment_at, slot_at}
use Rattle.pmd_driver.specs.PmdAccess.Slots.{descriptor_in}
use Rattle.pmd_driver.specs.PmdRx.Receive.{fresh_of, vacant}
use Rattle.pmd_driver.specs.{PmdTx.Sending.Segment}
use Rattle.ring_laws.proofs.Blocks.{has_lent-ring, has_lent-segment, slot-below}
use Rattle.ring_laws.proofs.DeviceLaws.{RepliesSent.transmitting_tells, StandingQueues.receiving_rest}
use Rattle.ring_laws.proofs.Reports.{IsSparedBy, clear_outside, reported, spared_block}
use Rattle.ring_laws.proofs.{Fetching.head_is, Fetching.length-asking, Foreign.piece_inside}
use Rattle.ring_laws.proofs.{Kept.each_by, Kept.each_posted, Kept.each_ring, Kept.slot_below, Parts.seen_within}
use Rattle.ring_laws.specs.Steps.{IfFresh, IsOutside, Leaves, OwnReportsSpare}
use Rattle.ring_laws.specs.{Agreeing.AgreesAt, DeviceLaws.Leaving.LeavesReceive, DeviceLaws.Leaving.LeavesTransmit}
use Rattle.ring_laws.specs.{DeviceLaws.Replies.report_of, Lent.LendsOneOf, Joint.Holds, Steps.Each}
use Rattle.std.proofs.Common.{Bool, List, [], ap, arith, false, inl, inr, length, not, refl, rules, subst, suc, sym}
use Rattle.std.proofs.Common.{take, true, ℕ, ◌*◌, ◌+◌, ◌/◌, ◌<◌, ◌∙◌, ◌∷◌, ◌≡◌, ◌≢◌}
use Rattle.std.proofs.lemmas.Bool.{cases_eq, eqb-false, eqb-true, ne_eqb, not-true, or_cases}
use Rattle.std.proofs.lemmas.{Grind.common_steps, List.get_or-take, List.length-take-le}
use Rattle.std.specs.{List.list_any, Prelude.IsTrue, Prelude.slice_index_or, Prelude.⊤, Prelude.◌==◌}
use Rattle.pmd_driver.specs.NicDevice.declared.event.Event.TheVariants as event
use Rattle.pmd_driver.specs.PmdRx.Keeping as received
use Rattle.pmd_driver.specs.PmdRx.Receive as receiving

-- Lemmas: the blocks that the receive half has lent are lent to the device.

pub receive_lent : (queue : ℕ) (s : State) (out : List Piece) (v : Receive) → Agree queue s out v
    → Each v (λ b. has_block s.memory b ≡ true)
receive_lent queue s out v (gone, here, h) =
    let fresh : IfFresh v.stage (λ b. has_block s.memory b ≡ true) = let stage = h.stage in grind arith in
    search (rules, each_by, reach)

-- Lemmas about an event that lends a block.

-- Each block that was lent before is unchanged, and its number differs from the newly lent block's.
lend_leaves : (s : State) (block : Block) (number : ℕ) → has_block s.memory number ≡ true
    → LeavesBlock number s (after s (event.Lend block))
    × (reply_to s (event.Lend block) ≡ Done → block.number ≢ number)
unfolding step_of
lend_leaves s block number has = grind (arith, common_steps, lent_cases, memory_blocks)

-- Lemmas: no block is lent by both halves, whatever calls they make.

module _ (s : State) where
  -- A block that a call lends wasn't lent before.
  lends_other : (e : Event Block) (r : Reply Block) → reply_to s e ≡ r → (n : ℕ) → has_block s.memory n ≡ true
      → LendsOneOf (λ b. not (b == n)) e r
  lends_other e r is n has =
      let apart = λ (b : Block). (lend_leaves s b n has).1 in grind (arith, common_steps, ne_eqb)

  -- An event of the receive half.
  pub receives_apart : (v : Receive) (u : Sender) (e : Event Block) → receiving.IsOwn v e
      → ((n : ℕ) → IsTrue (has_lent u n) → has_block s.memory n ≡ true)
      → ((n : ℕ) → IsTrue (has_lent u n) → Each v (λ b. b ≢ n))
      → (n : ℕ) → IsTrue (has_lent u n) → Each (drive v e (reply_to s e)) (λ b. b ≢ n)
  receives_apart v u e own lent apart n is b has =
      let at = mine_driven (λ b. not (b == n)) v (λ k i. ap not (ne_eqb k n (apart n is k i))) e (reply_to s e) own
      (lends_other e _ refl n (lent n is)) b has in grind (arith, eqb-false, not-true)

  -- An event of the transmit half.
  pub sends_apart : (v : Receive) (u : Sender) (m : Move) (e : Event Block) → IsOwn u m e
      → Each v (λ b. has_block s.memory b ≡ true) → ((n : ℕ) → IsTrue (has_lent u n) → Each v (λ b. b ≢ n))
      → (n : ℕ) → IsTrue (has_lent (moved u m (reply_to s e)) n) → Each v (λ b. b ≢ n)
  sends_apart v u m e own lent apart n is b has same =
      let at = mine-moved (λ k. not (k == b)) u (λ k i. ap not (ne_eqb k b (λ e. apart k i b has (sym e)))) m e _ own
      (lends_other e _ refl b (lent b has)) n is in grind (arith, eqb-false, not-true)

-- An event that takes or pokes only certain blocks, lends one, peeks, or writes the tail of a side of the queue.

abbrev pub Touches : Dir → ℕ → Blocks → State → Event Block → Type 0
Touches dir queue own s (event.Peek16 a) = ⊤
Touches dir queue own s (event.Lend b) = ⊤
Touches dir queue own s (event.Take n) = IsTrue (own n)
Touches dir queue own s (event.Poke16 a bytes) = (b : ℕ) × IsTrue (own b) × LiesIn b a (length bytes)
Touches dir queue own s (event.Write port n word) = named s port n ≡ Register (place (tail_row dir) queue) 0xFFFFFFFF
Touches dir queue own s other = ⊥

-- An event of this kind leaves all other lent blocks, the other side and the settings unchanged, and reports no piece.
module _ (dir : Dir) (queue : ℕ) (own : Blocks) (s : State) where
  touch_leaves : (number : ℕ) → has_block s.memory number ≡ true → ((n : ℕ) → IsTrue (own n) → number ≢ n)
      → (e : Event Block) → Touches dir queue own s e → LeavesBlock number s (after s e)
  touch_leaves number has away e is =
      grind (arith, common_steps, stays_within, memory_blocks, lend_leaves, inside_avoids, write_memory)

  pub touch_setting : (e : Event Block) → Touches dir queue own s e → WritesNoSetting s e
  touch_setting e is = grind (arith, common_steps, plain-write, place)

  -- A descriptor of a ring of these blocks is written.
  poke_touches : (ring size slot a : ℕ) (bytes : List ℕ) → EachRingBlock ring size (λ b. IsTrue (own b)) → slot < size
      → a ≡ descriptor_in ring slot → length bytes ≡ 16 → Touches dir queue own s (event.Poke16 a bytes)
  poke_touches ring size slot a bytes each below at sixteen =
      (ring + slot / 128, each (slot / 128) (slot_block size slot below), rw (at, sixteen) (slot_lies ring slot))

  pub touch_pieces : (e : Event Block) → Touches dir queue own s e → pieces queue s e ≡ []
  touch_pieces e is = search rules

touch_other : (queue : ℕ) (own : Blocks) (s : State) (e : Event Block)
    → (Touches Rx queue own s e → LeavesTransmit queue s (after s e))
    × (Touches Tx queue own s e → LeavesReceive queue s (after s e))
touch_other queue own s e = search (rules, memory_rest, write_rest)

-- Lemmas: an event of the receive half touches only blocks that the half has lent.

module _ (queue : ℕ) (s : State) (out : List Piece) (v : Receive) (gone here : List Piece)
    (h : Holds queue s out v gone here) where
  pub own_touches : (e : Event Block) → receiving.IsOwn v e → Touches Rx queue (received.has_lent v) s e
  own_touches (event.Take n) own = grind (arith, common_steps, seen_within, each_posted)
  own_touches (event.Poke16 a bytes) own =
      let l = reach v in
      poke_touches Rx queue (received.has_lent v) s l.ring l.size (receiving.slot_at l (vacant l)) a bytes
      (each_ring v (λ b. IsTrue (received.has_lent v b)) (λ b is. is)) (slot_below l (vacant l) h.ring (omega arith))
      own.address (ap length own.bytes_are ∙ (halves_come_back (posted (2048 * fresh_of v.stage)) 0).size)
  own_touches (event.Write port n word) own = rw (own.port_is, own.number_is) h.named.tail
  own_touches e own = search rules

  -- An event of the receive half spares the driver's transmit half.
  pub own_spares : (u : Sender) → ((number : ℕ) → IsTrue (has_lent u number) → has_block s.memory number ≡ true)
      → ((number : ℕ) → IsTrue (has_lent u number) → Each v (λ b. b ≢ number)) → (e : Event Block) → IsEvent e
      → receiving.IsOwn v e → Spares queue u s e
  own_spares u lent apart e made own =
      let touches = own_touches e own in
      let other = (touch_other queue (received.has_lent v) s e).0 touches in
      search (rules, touch_setting, touch_leaves)

-- Lemmas about a move of the transmit half.

abbrev pub is_elsewhere : Move → Bool
is_elsewhere Elsewhere = true
is_elsewhere other = false

-- If something holds for each segment's block, it holds for each block in the list of all segments' blocks.
any_segment : (P : ℕ → Type 0) (ss : List Segment)
    → ((k : ℕ) → k < length ss → P (slice_index_or ss k no_segment).block) → (n : ℕ)
    → list_any (λ b. n == b) (blocks_of ss) ≡ true → P n
any_segment P [] all n is = cc
any_segment P (x ∷ ss) all n is =
    grind (arith, or_cases, eqb-true, all 0, any_segment P ss (λ k below. all (suc k) (omega (arith, below))) n)

module _ (s : State) (queue : ℕ) (sent : List (List ℕ)) (u : Sender) (f : ℕ) (h : AgreesAt s queue sent u f) where
  -- Each block that the transmit half has lent is lent.
  pub sender_lent : (n : ℕ) → IsTrue (has_lent u n) → has_block s.memory n ≡ true
  sender_lent n is =
      let there = λ (x : ℕ). has_block s.memory x ≡ true in
      let ring = each_ring_block u.layout.ring u.layout.size there h.shows.ring n in
      let segment = any_segment there (take u.lent u.outstanding)
      (λ k known. grind (arith, get_or-take, length-take-le, h.shows.ready k)) n in
      grind (arith, or_cases)

  pub move_touches : (m : Move) (e : Event Block) → is_elsewhere m ≡ false → IsOwn u m e
      → Touches Tx queue (has_lent u) s e
  move_touches Asks (event.Poke16 a bytes) real own =
      let below = slot-below u.layout h.based.layout u.poked (let known = own.0 in let c = h.counted in omega arith) in
      poke_touches Tx queue (has_lent u) s u.layout.ring u.layout.size (slot_at u.layout u.poked) a bytes
      (has_lent-ring u) below own.1 (ap length own.2 ∙ length-asking (segment_at u u.poked))
  move_touches Advances (event.Write port n word) real own = rw (own.2, own.3) h.based.tail
  move_touches Reaps (event.Take n) real own = grind (arith, common_steps, has_lent-segment)
  move_touches m e real own = search rules

  -- A move of the transmit half leaves what the receive half relies on.
  pub move_spares : (v : Receive) → Each v (λ b. has_block s.memory b ≡ true)
      → ((n : ℕ) → IsTrue (has_lent u n) → Each v (λ b. b ≢ n)) → (e : Event Block) → Touches Tx queue (has_lent u) s e
      → Leaves queue v s (after s e)
  move_spares v lent apart e touches =
      let other = (touch_other queue (has_lent u) s e).1 touches in
      let mode = (settings_stand s e (touch_setting Tx queue (has_lent u) s e touches)).mode in
      let vfs = (stays_within s e).vfs in search (rules, touch_leaves Tx queue (has_lent u) s)

-- Device steps on the driver's own queue: receiving writes into blocks that the receive half has lent, and what
-- transmitting reports goes into the transmit ring's blocks.

module _ (queue : ℕ) (mine : Blocks) (s : State) (sound : IsSound s) (out : List Piece) (v : Receive)
    (j : Agree queue s out v) (outside : WritesOutside queue mine (reply_to s event.RxStep)) where
  -- A received frame is written outside the other half's blocks.
  reported_outside : (n : ℕ) → IsTrue (mine n) → Each v (λ b. b ≢ n) → (r : Reply Block) → reply_to s event.RxStep ≡ r
      → WritesOutside queue mine r → IsSparedBy r n
  reported_outside n is away (Wrote on slot end desc at len) reported left =
      elim (cases_eq on queue) as (λ _. IsOutside desc at len n) [
        | inl own ↦
            let here = piece_inside queue s out v sound j slot end desc at len
            (subst (λ q. reply_to s event.RxStep ≡ Wrote q slot end desc at len) own reported) in
            let ring = each_ring v (λ b. b ≢ n) away here.descriptor.part here.descriptor.known in
            let posted = each_posted v (λ b. b ≢ n) away here.slot here.known in
            let slot = inside_avoids _ n desc 16 here.descriptor.descriptor (λ e. ring (sym e)) in
            assumption (slot, λ (some : 0 < len). inside_avoids _ n at len here.bytes (λ e. posted (sym e)))
        | inr ne ↦ clear_outside mine desc at len n (left ne) is
      ]
  reported_outside n is away other reported left = tt

  -- A receive step on the driver's queue spares the transmit half.
  pub received_spares : (u : Sender) → ((n : ℕ) → IsTrue (has_lent u n) → IsTrue (mine n))
      → ((n : ℕ) → IsTrue (has_lent u n) → Each v (λ b. b ≢ n)) → Spares queue u s event.RxStep
  received_spares u lent apart = search (rules, receiving_rest, spared_block, reported_outside)

-- The queue's own transmit side writes its reports only into blocks of its ring.
pub reports_spare : (s : State) (queue : ℕ) (sent : List (List ℕ)) (u : Sender) (f : ℕ) → AgreesAt s queue sent u f
    → (v : Receive) → ((n : ℕ) → IsTrue (has_lent u n) → Each v (λ b. b ≢ n)) → OwnReportsSpare queue v s
reports_spare s queue sent u f h v apart back said =
    let l = u.layout in
    let low : has_bit 0 (word_of s.registers Tdwbal queue) ≡ false = grind (arith, common_steps, h.set_up.writeback) in
    let at = reported queue (reply_to s (event.TxStep queue)) s (after s (event.TxStep queue))
    (transmitting_tells s h.based.sound queue) back said in
    let head : report_of s.registers queue ≡ descriptor_at l f = rw low (head_is h) in
    let below = slot-below l h.based.layout f (let c = h.counted in omega arith) in
    let here : back / 2048 ≡ l.ring + slot_at l f / 128 = let is = at ∙ head in omega (arith, is) in
    λ b has e. apart _ (has_lent-ring u _ (slot_block l.size (slot_at l f) below)) b has (e ∙ here)
