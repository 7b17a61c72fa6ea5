-- Segments of whole packets, an accepted packet, and which blocks the driver has lent for sending.
use Rattle.ring_laws.specs.Prelude.{Block, Blocks, Memory, Reply, State, after, reply_to, transmit_queue_of}
use Rattle.ring_laws.{proofs.Lent.Follows, proofs.Lent.follows_in, proofs.Lent.follows_known, specs.Lent.either}
use Rattle.ring_laws.{proofs.Lent.still_known, specs.Lent.OnlyLent, specs.Prelude.Event, specs.Prelude.TransmitQueue}
use Rattle.pmd_access.proofs.NicDevice.DmaArena.{Blocks.read_at_in, Bus.get-insert_same}
use Rattle.pmd_access.proofs.NicDevice.DmaArena.Bus.{get-insert_other}
use Rattle.pmd_access.specs.NicDevice.DmaArena.Memory.{part}
use Rattle.pmd_tx.specs.Sending.{MayLend, paired, parts_for, parts_in}
use Rattle.ring_laws.specs.Agreeing.{ArePackets, IsLayout, IsReady, SendsInOrder, Shows, bytes_of, staged_with}
use Rattle.ring_laws.specs.TransmitPrelude.{Accepts, MayAccept, Move, Segment, accepted_by, moved, segment_at}
use Rattle.ring_laws.specs.TransmitPrelude.{Elsewhere, IsOwn, Kept, Outgoing, Reaps, has_lent, no_segment, segments_of}
use Rattle.ring_laws.specs.{Agreeing.IsCounted, Agreeing.frames_from, TransmitLent.SparesNumbers, TransmitPrelude.Lends}
use Rattle.ring_laws.{proofs.Blocks.has_lent-segment, specs.TransmitLent.OwnLendsAreKnown, specs.TransmitPrelude.Sender}
use Rattle.ring_laws.{proofs.Blocks.shows-same, proofs.Blocks.unlike, specs.Agreeing.IsCutOff}
use Rattle.ring_laws.specs.Lent.{LendsOneOf}
use Rattle.std.proofs.Common.{IsTrue, [], is_some, length, refl, slice_index_or, sym, take, true, ◌*◌, ◌∷◌, ◌≢◌, ◌≤◌}
use Rattle.std.proofs.Common.{List, Some, ap, arith, drop, inl, inr, suc, zero, ℕ, ◌++◌, ◌+◌, ◌<◌, ◌==◌, ◌||◌, ◌∙◌, ◌≡◌}
use Rattle.std.proofs.lemmas.List.{drop-append-le, get_or_append_left, map-append, take-append-drop, take-append-le}
use Rattle.std.proofs.{Common.length-append, lemmas.Bool.cases_Bool, lemmas.Grind.common_steps, lemmas.List.length-take}
use Rattle.std.specs.FinMap as fin
use Rattle.pmd_access.specs.NicDevice.declared.event.Reply.TheVariants as reply
use Rattle.pmd_access.specs.NicDevice.declared.event.Event.TheVariants as event

-- Segments of whole packets, after the staged bytes, and the frames that these segments become.

length-parts : (whole : ℕ) (bs bytes : List ℕ) → length (paired bs (parts_in whole (length bs) bytes)) ≡ length bs
length-parts whole [] bytes = refl
length-parts whole (b ∷ []) bytes = refl
length-parts whole (b ∷ c ∷ bs) bytes = ap suc (length-parts whole (c ∷ bs) (drop 2048 bytes))

pub length-segments : (p : Outgoing) → length p.blocks ≡ parts_for (length p.kept.bytes)
    → length (segments_of p) ≡ length p.blocks
length-segments p each = rw (← each) (length-parts (length p.kept.bytes) p.blocks p.kept.bytes)

pub some-parts : (len : ℕ) → 60 ≤ len → 0 < parts_for len
some-parts len long = omega arith

-- The segments of a packet become its frame.

module _ (limit whole : ℕ) where
  abbrev pub IsPacket : List ℕ → List ℕ → List Segment → Type 0
  IsPacket staged bytes ss = (frames_from staged ss ≡ (staged ++ bytes) ∷ []) × ArePackets limit staged ss

  pub packet-parts : (bs staged bytes : List ℕ) → 0 < length bs → length staged + length bytes ≤ limit
      → 60 ≤ length staged + length bytes → IsPacket staged bytes (paired bs (parts_in whole (length bs) bytes))
  packet-parts [] staged bytes some short long = absurd (omega (arith, some))
  packet-parts (b ∷ []) staged bytes some short long = grind (arith, common_steps)
  packet-parts (b ∷ c ∷ bs) staged bytes some short long =
      let both = length-append staged (take 2048 bytes) in
      let cut = length-append (take 2048 bytes) (drop 2048 bytes) in
      let all = take-append-drop 2048 bytes in
      let rest = packet-parts (c ∷ bs) (staged ++ take 2048 bytes) (drop 2048 bytes) (omega arith)
      (omega (arith, both, cut, ap length all)) (omega (arith, both, cut, ap length all)) in
      (grind (arith, common_steps))

-- Packets appended to other packets, and their frames.

pub packets-append : (limit : ℕ) (staged : List ℕ) (xs ys : List Segment) → ArePackets limit staged xs
    → ArePackets limit [] ys → ArePackets limit staged (xs ++ ys)
    × (frames_from staged (xs ++ ys) ≡ frames_from staged xs ++ frames_from [] ys)
packets-append limit staged [] ys none more = rw none (more, refl)
packets-append limit staged (x ∷ xs) ys are more =
    grind (arith, packets-append limit (staged_with staged x) xs ys are.2 more)

-- If bytes are staged, the end of their packet is still among the segments.

pub frame_left : (limit : ℕ) (staged : List ℕ) (ss : List Segment) → 0 < length staged → ArePackets limit staged ss
    → (frame : List ℕ) × (rest : List (List ℕ)) × (0 < length ss) × (frames_from staged ss ≡ frame ∷ rest)
frame_left limit staged [] some none = absurd (omega (arith, ap length none))
frame_left limit staged (x ∷ ss) some are = elim (cases_Bool x.part.last) [
  | inl last ↦ rw last (staged ++ x.part.bytes, frames_from [] ss, omega arith, refl)
  | inr other ↦
      let (frame, rest, more, is) = frame_left limit (staged ++ x.part.bytes) ss
      (omega (arith, length-append staged x.part.bytes)) (rw other at are.2) in
      rw other (frame, rest, omega arith, is)
]

-- Segments that include the last segment of a packet become at least one frame.
pub frame_of_end : (staged : List ℕ) (ss : List Segment) (k : ℕ) → k < length ss
    → (slice_index_or ss k no_segment).part.last ≡ true → 0 < length (frames_from staged ss)
frame_of_end staged [] k below end = absurd (omega arith)
frame_of_end staged (x ∷ ss) zero below end = rw end (omega arith)
frame_of_end staged (x ∷ ss) (suc k) below end =
    grind (arith, frame_of_end (staged_with staged x) ss k (omega arith) end)

-- A block that is lent for a segment. If the segment is a packet's first, this accepts the packet; otherwise, the
-- segment is the packet's next.

-- A segment's block, among segments that begin with the lent ones and continue with it.
module _ (m : Memory) (v : Sender) (f : ℕ) (l : IsLayout v.layout) (c : IsCounted v f) (h : Shows m v f) (x : Segment)
    (b : Block) (may : MayLend v x b) (ss : List Segment) (ks : List Kept)
    (early : (k : ℕ) → k < v.lent → slice_index_or ss k no_segment ≡ segment_at v k)
    (next : slice_index_or ss v.lent no_segment ≡ x)
  where
    abbrev pub w : Sender
    w = record v { outstanding = ss; lent = v.lent + 1; accepted = ks }

    abbrev pub lent : Memory
    lent = fin.insert m b.number b.bytes

    -- The new segment's block isn't one of the driver's blocks.
    new : (k : ℕ) → k < v.lent → (segment_at v k).block ≢ x.block
    new k below = unlike v x.block (segment_at v k).block may.away (has_lent-segment v k c.lent_known below)

    stays : Shows lent v f
    stays = shows-same m lent v f l c h (grind (arith, common_steps, get-insert_other, unlike))

    ready : IsReady lent v.layout.ring v.layout.size x
    unfolding part
    ready =
        let there : fin.get lent x.block ≡ Some b.bytes = rw (← may.number) (get-insert_same m b.number b.bytes) in
        let short : length x.part.bytes ≤ 2048 =
        omega (arith, may.whole, ap length may.bytes, length-take (length x.part.bytes) b.bytes) in
        record {
          short = short;
          whole = omega (arith, may.short, l.limit);
          lent = ap is_some there;
          apart = (grind arith);
          bytes =
              read_at_in lent (2048 * x.block) (length x.part.bytes) x.block 0 b.bytes there may.whole (omega arith)
              (omega (arith, short)) ∙ may.bytes;
        }

    pub lent_holds : length ss < v.layout.size → v.lent < length ss → IsCounted w f × Shows lent w f
    lent_holds room known = (grind (arith, new), grind (arith, stays, ready))

-- The segments of an accepted packet follow those of the earlier packets.
module _ (v : Sender) (p : Outgoing) (b : Block) (may : MayAccept v p b) where
  pub early-accepted : (k : ℕ) → k < v.lent → segment_at (accepted_by v p) k ≡ segment_at v k
  early-accepted k below = get_or_append_left v.outstanding (segments_of p) no_segment k (omega (arith, may.lent))

  pub count-accepted : length (v.outstanding ++ segments_of p) ≡ length v.outstanding + length p.blocks
  count-accepted = omega (arith, length-append v.outstanding (segments_of p), length-segments p may.each)

  pub known-accepted : v.lent < length (v.outstanding ++ segments_of p)
  known-accepted = omega (arith, count-accepted, may.lent, may.each, some-parts (length p.kept.bytes) may.long)

  module _ (f : ℕ) (low : f ≤ length v.outstanding) (sent : List (List ℕ)) where
    more : bytes_of (v.accepted ++ p.kept ∷ []) ≡ bytes_of v.accepted ++ p.kept.bytes ∷ []
    more = map-append (λ (k : Kept). k.bytes) v.accepted (p.kept ∷ [])

    abbrev left : List Segment
    left = drop f v.outstanding

    split : drop f (v.outstanding ++ segments_of p) ≡ left ++ segments_of p
    split = drop-append-le f v.outstanding (segments_of p) low

    packet : IsPacket v.layout.limit (length p.kept.bytes) [] p.kept.bytes (segments_of p)
    packet =
        rw (← may.each) (packet-parts v.layout.limit (length p.kept.bytes) p.blocks [] p.kept.bytes
        (omega (arith, may.each, some-parts (length p.kept.bytes) may.long)) (omega (arith, may.short))
        (omega (arith, may.long)))

    cut-accepted : (side : TransmitQueue) → IsCutOff side sent left v.accepted
        → IsCutOff side sent (left ++ segments_of p) (v.accepted ++ p.kept ∷ [])
    cut-accepted side t = grind (arith, common_steps, more)

    pub sends-accepted : (s : State) (queue : ℕ) → SendsInOrder s queue sent v.layout.limit left v.accepted
        → SendsInOrder s queue sent v.layout.limit (drop f (v.outstanding ++ segments_of p)) (v.accepted ++ p.kept ∷ [])
    sends-accepted s queue (inl t) = grind (arith, common_steps, split, packet, packets-append)
    sends-accepted s queue (inr t) = rw split (inr (cut-accepted (transmit_queue_of s.registers queue) t))

-- The first segment of a packet after the outstanding ones.
pub first_at : (v : Sender) (p : Outgoing) → v.lent ≡ length v.outstanding
    → segment_at (accepted_by v p) v.lent ≡ slice_index_or (segments_of p) 0 no_segment
first_at v p lent = grind (arith, common_steps)

-- What a move that lends a block adds.

module _ (v : Sender) (n : ℕ) where
  -- The block of one more segment is lent: the next of these segments.
  next_lent : (ss : List Segment) (ks : List Kept) (b : ℕ) → take v.lent ss ≡ take v.lent v.outstanding
      → v.lent < length ss → b ≡ (slice_index_or ss v.lent no_segment).block
      → has_lent (record v { outstanding = ss; lent = v.lent + 1; accepted = ks }) n ≡ (n == b || has_lent v n)
  next_lent ss ks b same below next = grind (arith, common_steps)

  pub accepted_is : (p : Outgoing) (b : Block) → MayAccept v p b
      → has_lent (accepted_by v p) n ≡ (n == b.number || has_lent v n)
  accepted_is p b may =
      next_lent (v.outstanding ++ segments_of p) (v.accepted ++ p.kept ∷ []) b.number
      (take-append-le v.lent v.outstanding (segments_of p) (omega (arith, may.lent)))
      (omega (arith, may.lent, may.each, length-segments p may.each, length-append v.outstanding (segments_of p)))
      (may.first.number ∙ ap (λ (x : Segment). x.block) (sym (first_at v p may.lent)))

module _ (v : Sender) where
  follows : (m : Move) (e : Event Block) → IsOwn v m e → m ≢ Elsewhere → (r : Reply Block) (n : ℕ)
      → Follows (has_lent v) (has_lent (moved v m r)) e r n
  follows (Accepts p) (event.Lend b) may ne reply.Done n = accepted_is v n p b may
  follows Lends (event.Lend b) may ne reply.Done n = grind (arith, common_steps)
  follows Reaps (event.Take t) may ne (reply.Buf b) n = grind (arith, common_steps)
  follows Elsewhere e may ne r n = absurd (ne refl)
  follows m e may ne r n = grind arith

-- Every block that the driver has lent is one of these blocks. This stays true through the driver's moves if each block
-- that a move lends is one of these.
abbrev pub AreMine : Blocks → Sender → Type 0
AreMine mine v = (number : ℕ) → IsTrue (has_lent v number) → IsTrue (mine number)

pub mine-moved : (mine : Blocks) (v : Sender) → AreMine mine v → (m : Move) (e : Event Block) (r : Reply Block)
    → IsOwn v m e → LendsOneOf mine e r → AreMine mine (moved v m r)
mine-moved mine v all Elsewhere e r may has = all
mine-moved mine v all m e r may has =
    follows_in mine (has_lent v) all e (λ r. has_lent (moved v m r)) (follows v m e may (λ is. cc)) r has

-- Each lent block of a given set stays known through the driver's own moves.

module _ (own others : Blocks) (s : State) (v : Sender)
    (only : OnlyLent own (either (has_lent v) others) s.memory)
  where
    own_known : (m : Move) (e : Event Block) → IsOwn v m e → SparesNumbers own m e
        → OnlyLent own (either (has_lent (moved v m (reply_to s e))) others) (after s e).memory
    own_known Elsewhere e may spares = still_known own others s (has_lent v) only e (has_lent v) spares (λ n has. has)
    own_known m e may spares =
        follows_known own others s (has_lent v) only e (λ r. has_lent (moved v m r)) (follows v m e may (λ is. cc))

pub own_lends_are_known : OwnLendsAreKnown
own_lends_are_known = record {
  kept = λ own others s v m e only may spares. own_known own others s v only m e may spares;
  again = λ own others s v m e only may is. (grind arith);
}
