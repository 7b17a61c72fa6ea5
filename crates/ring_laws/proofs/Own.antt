-- Each of the driver's own events gets the reply of a healthy queue and keeps the agreement. The events in this file
-- name a block in a descriptor, advance the tail, and take the block of the next slot.
use Rattle.ring_laws.specs.Prelude.{Block, Done, Rdt, place, receive_queue_of, write_at}
use Rattle.ring_laws.specs.Prelude.{Event, Memory, Port, ReceiveQueue, after_write, bytes_in, named_written, step_of}
use Rattle.ring_laws.{proofs.Lent.taken_is, proofs.Written.receive-tail, specs.Prelude.IsWhole, specs.Prelude.State}
use Rattle.pmd_access.proofs.NicDevice.DmaArena.Bus.{get-remove_other}
use Rattle.pmd_access.proofs.DeviceLock.{NicDevice.DmaArena.Blocks.read_at_in, NicDevice.DmaArena.Bus.of_some}
use Rattle.pmd_access.proofs.DeviceLock.{NicDevice.DmaRing.Fields.halves_come_back}
use Rattle.pmd_access.specs.DeviceLock.{NicDevice.DmaArena.Memory.part, NicDevice.DmaRing.Driver.posted}
use Rattle.pmd_access.specs.DeviceLock.{NicDevice.RegisterLaws.Sound.HasShape}
use Rattle.pmd_rx.specs.Receive.{HasLent, consumed, naming}
use Rattle.pmd_access.proofs.Rings.{ring_block_apart}
use Rattle.pmd_rx.specs.Receive.{TakesNext, tail_after}
use Rattle.ring_laws.proofs.Kept.{named_kept, order_on, order_same, posted_block, seen_within, slot_below}
use Rattle.ring_laws.proofs.{Blocks.same_stays, Blocks.written_stays, Kept.reach_long, Kept.taking, Leaving.lend_keeps}
use Rattle.ring_laws.specs.Joint.{Agree, HasSlots, Holds, InOrder, IsLoose, IsRing, IsSetUp, StageHolds}
use Rattle.ring_laws.specs.ReceivePrelude.{IsOwn, Receive, Reported, block_at, drive, ended_of, extended, next_stage, reach}
use Rattle.ring_laws.specs.ReceivePrelude.{Layout, MovesNext, NamesNext, Packet, descriptor_at, posts, records_of, took}
use Rattle.ring_laws.specs.{Pieces.Piece, Pieces.no_piece, Pieces.piece_at, Pieces.pieces, ReceivePrelude.names}
use Rattle.ring_laws.specs.{ReceivePrelude.fresh_of, ReceivePrelude.slot_at, ReceivePrelude.vacant, Steps.OwnEventKeeps}
use Rattle.ring_laws.{proofs.Blocks.slot_poked, proofs.Blocks.written_here, specs.ReceiveHealthy.OwnRepliesAreHealthy}
use Rattle.ring_laws.{proofs.Leaving.Driven, proofs.Leaving.by_outcome, proofs.Leaving.look_keeps, specs.Joint.IsFilled}
use Rattle.std.proofs.Common.{List, Some, append_assoc, arith, length, length-drop, refl, ℕ, ◌++◌, ◌+◌, ◌<◌, ◌∙◌, ◌∷◌}
use Rattle.std.proofs.Common.{ap, append-nil, drop, length-append, length-take-le, sym, take, take-append-drop, ◌*◌}
use Rattle.std.proofs.{Common.[], Common.◌≤◌, lemmas.List.drop-append-le, lemmas.List.get_or-drop, lemmas.List.take_all}
use Rattle.std.{proofs.Common.subst, proofs.lemmas.Grind.common_steps, proofs.lemmas.List.map-append, specs.Prelude.◌≡◌}
use Rattle.pmd_access.specs.NicDevice.declared.event.Event.TheVariants as event
use Rattle.pmd_access.specs.NicDevice.declared.event.Reply.TheVariants as reply
use Rattle.std.specs.FinMap as map

-- The driver writes the descriptor of the first slot without a block, which now names the lent block. One more slot has
-- a block, and a packet may be complete.

module _ (m : Memory) (l : Layout) (here : List Piece) (ring : IsRing l) (h : HasSlots m l here) (whole : IsWhole m)
    (b : ℕ) (loose : IsLoose m l b) where
  abbrev on : Layout
  on = extended l (b ∷ [])

  ring_more : IsRing on
  ring_more = grind (arith, common_steps)

  abbrev n : Memory
  n = write_at m (descriptor_at l (vacant l)) (naming b)

  pub named_more : IsRing on × HasSlots n on here
  named_more =
      let halves = halves_come_back (posted (2048 * b)) 0 in
      let below = slot_below l (vacant l) ring (omega arith) in
      let stays = written_stays l.ring l.size (slot_at l (vacant l)) below m (naming b) halves.size in
      let back = written_here l.ring l.size (slot_at l (vacant l)) below m (naming b) halves.size whole h.there in
      (ring_more, (grind (arith, common_steps)))

order_named : (out gone here : List Piece) (v : Receive) → HasLent v.stage → InOrder out v gone here
    → InOrder out (names v) gone here
order_named out gone here v lent o = grind (arith, common_steps)

pub name_keeps : (queue : ℕ) (s : State) (out : List Piece) (v : Receive) (a : ℕ) (bytes : List ℕ)
    → Agree queue s out v → NamesNext v a bytes → Driven queue s out v (event.Poke16 a bytes)
name_keeps queue s out v a bytes (gone, here, h) own =
    let l = reach v in
    let b = fresh_of v.stage in
    let at = descriptor_at l (vacant l) in
    let t : State = record s { memory = write_at s.memory at (naming b) } in
    let loose : IsLoose s.memory l b = (grind arith) in
    let same : extended l (b ∷ []) ≡ reach (names v) = simp append_assoc in
    let next : StageHolds t.memory (reach (names v)) (next_stage v.seen) = (grind arith) in
    by_outcome queue s out v (event.Poke16 a bytes) (event.Poke16 at (naming b)) _
    (λ k. event.Poke16 (own.address k) (own.bytes_are k))
    (slot_poked l.ring l.size (slot_at l (vacant l)) (slot_below l (vacant l) h.ring (omega arith)) s (naming b)
    h.slots.there)
    (λ i.
    let more = named_more s.memory l here h.ring h.slots i.blocks.whole b loose in (
      gone,
      here,
      assumption (
        subst IsRing same more.0,
        subst (λ (x : Layout). HasSlots t.memory x here) same more.1,
        next,
        order_named out gone here v own.stage h.order,
      ),
    )) (λ i up. up) (λ all again. refl)

-- The tail advances over slots that name blocks: these slots become posted, and complete packets are handed out.

-- This many named slots, or all named slots if there are fewer.
abbrev many : Receive → ℕ → ℕ
many v blocks = length (take blocks v.named)

-- The tail advances over these slots, and this many packets are handed out.
module _ (v : Receive) (blocks packets : ℕ) where
  abbrev w : Receive
  w = posts v blocks packets

  module _ (queue : ℕ) (s : State) (out gone here : List Piece) (shape : HasShape s.registers)
      (h : Holds queue s out v gone here) where
    abbrev to : ℕ
    to = tail_after v.layout (many v blocks)

    abbrev t : State
    t = record s { registers = after_write s.registers (place Rdt queue) 0xFFFFFFFF to }

    posts_holds : Holds queue t out w gone here
    posts_holds =
        let same : reach v ≡ reach w = simp (append_assoc, take-append-drop) in
        record {
          named = assumption (named_kept s t queue v.layout (grind (arith, common_steps)) refl h.named);
          ring = subst IsRing same h.ring;
          side = subst (λ q. IsSetUp q w.layout (length here))
              (sym (receive-tail s.registers queue to shape h.named.low (grind (arith, common_steps))))
              (assumption (ap (slot_at v.layout) (sym (length-append v.layout.blocks (take blocks v.named)))));
          posted = omega (arith, h.posted, length-append v.layout.blocks (take blocks v.named));
          slots = subst (λ (l : Layout). HasSlots s.memory l here) same h.slots;
          stage = subst (λ (l : Layout). StageHolds s.memory l v.stage) same h.stage;
          order = order_same out gone here v w h.order (ap (λ (ps : List Packet). v.handed
              ++ records_of (ps ++ ended_of v.seen v.held)) (sym (take-append-drop packets v.whole))
              ∙ simp (append_assoc, map-append)) refl h.order.seen h.order.stage;
        }

-- How far a written value advances the tail, and which packets are handed out when the tail advances.
record IsMoved (v : Receive) (word : ℕ) (w : Receive) : Type 0 where
  pub blocks : ℕ
  pub packets : ℕ
  pub word_is : word ≡ tail_after v.layout (many v blocks)
  pub driver : w ≡ posts v blocks packets

moved_is : (v : Receive) (port : Port) (number word : ℕ) → MovesNext v port number word
    → IsMoved v word (drive v (event.Write port number word) reply.Done)
moved_is v port number word own = grind (arith, take_all, length-take-le)

pub move_keeps : (queue : ℕ) (s : State) (out : List Piece) (v : Receive) (port : Port) (number word : ℕ)
    → Agree queue s out v → MovesNext v port number word → Driven queue s out v (event.Write port number word)
unfolding step_of
move_keeps queue s out v port number word (gone, here, h) own =
    let m = moved_is v port number word own in
    let To : ℕ → State = λ x. record s { registers = after_write s.registers (place Rdt queue) 0xFFFFFFFF x } in
    by_outcome queue s out v (event.Write port number word) (event.Write v.layout.port v.layout.tail word) _
    (λ k. event.Write (own.port_is k) (own.number_is k) word) (ap (λ n. named_written s n word) h.named.tail)
    (λ i.
    subst (Agree queue (To word) out) (sym m.driver)
    (subst (λ x. Agree queue (To x) out (posts v m.blocks m.packets)) (sym m.word_is)
    (gone, here, posts_holds v m.blocks m.packets queue s out gone here i.registers.shape h)))
    (grind (arith, common_steps)) (λ all again. refl)

-- The ring without its next slot.

module _ (m : Memory) (l : Layout) (here : List Piece) (ring : IsRing l) (h : HasSlots m l here)
    (some : 0 < length here) where
  abbrev without : Memory
  without = map.remove m (block_at l 0)

  pub less_holds : IsRing (consumed l) × HasSlots without (consumed l) (drop 1 here)
  less_holds =
      let block_on : (k : ℕ) → block_at (consumed l) k ≡ block_at l (1 + k) = λ k. get_or-drop 1 l.blocks k 0 in
      let piece_on : (k : ℕ) → piece_at (drop 1 here) k ≡ piece_at here (1 + k) = λ k. get_or-drop 1 here k no_piece in
      let desc_on : (k : ℕ) → k + 1 < l.size → descriptor_at (consumed l) k ≡ descriptor_at l (1 + k) =
      λ k i. ap (λ x. 2048 * l.ring + 16 * x) (grind arith) in
      let all = same_stays l.ring l.size m without (grind (arith, common_steps, get-remove_other, ring_block_apart)) in
      let kept : (k : ℕ) → 0 < k → k < length l.blocks → map.get without (block_at l k) ≡ map.get m (block_at l k) =
      (grind (arith, get-remove_other)) in
      ((grind arith), (grind (arith, common_steps)))

-- The queue's side, given the posted slots.
set_up_on : (q : ReceiveQueue) (l : Layout) (here : List Piece) → l.next < l.size → length l.blocks < l.size
    → length here ≤ length l.blocks → 0 < length here → IsSetUp q l (length here)
    → IsSetUp q (consumed l) (length (drop 1 here))
set_up_on q l here next room within some up = grind arith

-- The block of the next slot is taken: its piece is the oldest piece that was written and not consumed.

-- The bytes of the packet are those at the start of the block.
packet_bytes : (m : Memory) (b : ℕ) (bytes : List ℕ) (a : ℕ) (p : Piece) (len : ℕ) → map.get m b ≡ Some bytes
    → length bytes ≡ 2048 → IsFilled m a b p → len ≡ length p.bytes → take len bytes ≡ p.bytes
unfolding part
packet_bytes m b bytes a p len is whole f e =
    ap (λ n. take n bytes) e
    ∙ sym (read_at_in m (2048 * b) (length p.bytes) b 0 bytes is whole (omega arith) (omega (arith, f.short))) ∙ f.bytes

take_next : (queue : ℕ) (s : State) (out : List Piece) (v : Receive) (n : ℕ) (t : Reported) (ts : List Reported)
    → Agree queue s out (taking v t ts) → n ≡ block_at v.layout 0 → Driven queue s out (taking v t ts) (event.Take n)
take_next queue s out v n t ts (gone, here, h) own =
    let l = reach v in
    let within = seen_within (t ∷ ts) here h.order.seen in
    let some : 0 < length here = omega (arith, within) in
    let outs : 0 < length v.layout.blocks = omega (arith, h.posted, some) in
    let room : length v.layout.blocks < v.layout.size = omega (arith, h.ring.room, reach_long v) in
    let f : IsFilled s.memory (descriptor_at l 0) (block_at l 0) (piece_at here 0) = h.slots.filled 0 some in
    let there = of_some (map.get s.memory (block_at l 0)) f.there in
    let b : Block = record { number = block_at l 0; bytes = there.0 } in
    let u : State = record s { memory = map.remove s.memory (block_at l 0) } in
    let same : consumed l ≡ reach (took v (t ∷ ts) b) = simp drop-append-le in
    let left = set_up_on (receive_queue_of s.registers queue) v.layout here h.ring.next room h.posted some h.side in
    let posted : length (drop 1 here) ≤ length (drop 1 v.layout.blocks) =
    omega (arith, length-drop 1 here, length-drop 1 v.layout.blocks, h.posted, some) in
    let less = less_holds s.memory l here h.ring h.slots some in
    by_outcome queue s out (taking v t ts) (event.Take n) (event.Take (block_at l 0)) _
    (ap event.Take (own ∙ sym (posted_block v 0 outs))) (taken_is s (block_at l 0) there.0 there.1)
    (λ i.
    let size = i.blocks.whole.block (block_at l 0) there.0 there.1 in
    let here_is : take (bytes_in t.second) b.bytes ≡ (piece_at here 0).bytes = (grind (arith, packet_bytes)) in (
      gone ++ piece_at here 0 ∷ [],
      drop 1 here,
      assumption (
        subst IsRing same less.0,
        left,
        posted,
        subst (λ (x : Layout). HasSlots u.memory x (drop 1 here)) same less.1,
        order_on out gone here v t ts b h.order some here_is size.size,
      ),
    )) (λ i up. up) (λ all again. refl)

pub take_keeps : (queue : ℕ) (s : State) (out : List Piece) (v : Receive) (n : ℕ) (seen : List Reported)
    → Agree queue s out v → TakesNext v n → v.seen ≡ seen → Driven queue s out v (event.Take n)
take_keeps queue s out v n [] j own is = grind arith
take_keeps queue s out v n (t ∷ ts) j own is =
    let seeing : v ≡ taking v t ts = λ k. record v { seen = is k; stage = own.stage k } in
    (grind (arith, take_next))

-- Each of the driver's own events keeps the agreement, keeps a side up that is up, and gets the reply of a healthy
-- queue.

pub own_did : (queue : ℕ) (s : State) (out : List Piece) (v : Receive) (e : Event Block) → Agree queue s out v
    → IsOwn v e → Driven queue s out v e
own_did queue s out v e h1 h2 = grind (arith, look_keeps, take_keeps, lend_keeps, name_keeps, move_keeps)

own_silent : (queue : ℕ) (s : State) (v : Receive) (e : Event Block) → IsOwn v e → pieces queue s e ≡ []
own_silent queue s v e own = grind arith

pub own_keeps : OwnEventKeeps
own_keeps queue s out v e i j own =
    rw (own_silent queue s v e own, append-nil out) ((own_did queue s out v e j own).agree i)

pub own_replies_are_healthy : OwnRepliesAreHealthy
own_replies_are_healthy queue s out v e j all own again = (own_did queue s out v e j own).healthy all again
