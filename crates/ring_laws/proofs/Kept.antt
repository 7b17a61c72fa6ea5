-- The ring of a receiving driver: its positions, its blocks, and what is unchanged if memory is unchanged. Also, the
-- parts of packets that the driver saw, and how pieces are cut into packets after the consumed pieces.
use Rattle.ring_laws.specs.Prelude.{Block, Memory, ends_packet}
use Rattle.ring_laws.{proofs.Left.named-same, specs.Prelude.State, specs.Prelude.bytes_in, specs.Prelude.mode_in}
use Rattle.pmd_access.proofs.{Copying.bytes-more, Rings.each_ring_block, Rings.ring_block_among}
use Rattle.pmd_rx.specs.Keeping.{fresh_block, has_lent}
use Rattle.pmd_access.specs.Bufs.{bytes_of}
use Rattle.ring_laws.specs.Joint.{AreOpen, AreSeen, InOrder, IsRing, StageHolds, still_held}
use Rattle.ring_laws.specs.ReceivePrelude.{EachRingBlock, Layout, Lent, Takes, Reported, block_at, ended_of, reach, slot_at}
use Rattle.ring_laws.specs.ReceivePrelude.{Receive, Stage, is_ring_block, kept_of, left_of, no_packet, records_of, took}
use Rattle.ring_laws.specs.{Joint.EndLast, Joint.HasSlots, Joint.IsAt, Pieces.Piece, Pieces.packets_after, Steps.Each}
use Rattle.ring_laws.specs.{Joint.IsNamed, Joint.IsOpen, Joint.Saw, Pieces.open_after, Pieces.packets_of, Steps.IfFresh}
use Rattle.ring_laws.{proofs.Blocks.Stays, specs.Joint.packets_had, specs.Pieces.piece_at, specs.ReceivePrelude.wrapped}
use Rattle.std.proofs.Common.{Bool, arith, cond, drop, eqb-true, inl, inr, slice_index, subst, take, true, ℕ, ◌+◌, ◌≤◌}
use Rattle.std.proofs.Common.{List, [], length, length-append, refl, suc, sym, ◌<◌, ◌==◌, ◌∙◌, ◌∷◌, ◌≡◌}
use Rattle.std.{proofs.Math.Seq.take-append-add, proofs.lemmas.Bool.or_cases, specs.List.list_any, specs.Prelude.◌++◌}
use Rattle.std.{proofs.lemmas.Grind.common_steps, proofs.lemmas.List.get_or_append_left, specs.Prelude.◌||◌}

-- The first position around a ring.

pub first_place : (n : ℕ) → 0 < n → 0 ≡ wrapped n (0 + 0)
first_place n h = grind arith

-- The slots of the ring that have a block, after each of the driver's calls.

pub reach_long : (v : Receive) → length (reach v).blocks ≡ length v.layout.blocks + length v.named
reach_long v = length-append v.layout.blocks v.named

-- The posted slots are the first of these slots.
pub posted_in : (v : Receive) (k : ℕ) → k ≤ length v.layout.blocks → k ≤ length (reach v).blocks
posted_in v k is = omega (arith, is, reach_long v)

pub posted_block : (v : Receive) (k : ℕ) → k < length v.layout.blocks → block_at (reach v) k ≡ block_at v.layout k
posted_block v k is = get_or_append_left v.layout.blocks v.named 0 k is

-- Facts about each block that the driver has lent for receiving. These are the blocks of the ring itself, the blocks of
-- its slots up to the last named slot, and a fresh block.

abbrev pub among : List ℕ → ℕ → Bool
among xs n = list_any (λ b. n == b) xs

-- A block that is in a list has an index in it.
any_place : (xs : List ℕ) (n : ℕ) → among xs n ≡ true → (k : ℕ) × (k < length xs) × (slice_index xs k ≡ n)
any_place [] n is = cc
any_place (x ∷ xs) n is = elim (or_cases (n == x) (among xs n) is) [
  | inl here ↦ (0, omega arith, sym (eqb-true n x here))
  | inr later ↦ let (k, known, same) = any_place xs n later in (suc k, omega (arith, known), same)
]

module _ (v : Receive) where
  -- The blocks that the driver has lent, by where they are.
  pub parted : (n : ℕ) → has_lent v n
      ≡ (among (reach v).blocks n || (among (fresh_block v.stage) n || is_ring_block v.layout.ring v.layout.size n))
  parted n = grind (arith, common_steps, ring_block_among)

  module _ (P : ℕ → Type 0) where
    pub each_by : EachRingBlock v.layout.ring v.layout.size P
        → ((k : ℕ) → k < length (reach v).blocks → P (block_at (reach v) k)) → IfFresh v.stage P → Each v P
    each_by ring slots fresh n has =
        let own = is_ring_block v.layout.ring v.layout.size n in
        elim (or_cases (among (reach v).blocks n) (among (fresh_block v.stage) n || own) (sym (parted n) ∙ has))
        as (λ _. P n) [
          | inl slot ↦ let (k, known, same) = any_place (reach v).blocks n slot in subst P same (slots k known)
          | inr rest ↦ elim (or_cases (among (fresh_block v.stage) n) own rest) as (λ _. P n) [
            | inl is ↦ grind arith
            | inr own ↦ each_ring_block v.layout.ring v.layout.size P ring n own
          ]
        ]

    module _ (each : Each v P) where
      pub each_ring : EachRingBlock v.layout.ring v.layout.size P
      each_ring k below = grind (arith, parted)

      pub each_slot : (k : ℕ) → k < length (reach v).blocks → P (block_at (reach v) k)
      each_slot k below = grind (arith, common_steps)

      -- A property of each lent block is also a property of the block in each posted slot.
      pub each_posted : (k : ℕ) → k < length v.layout.blocks → P (block_at v.layout k)
      each_posted k below = subst P (posted_block v k below) (each_slot k (posted_in v (suc k) below))

      pub each_fresh : IfFresh v.stage P
      each_fresh = grind (arith, common_steps)

pub each_map : (v : Receive) (P Q : ℕ → Type 0) → ((b : ℕ) → P b → Q b) → Each v P → Each v Q
each_map v P Q f each n has = f n (each n has)

-- The part of the agreement that still holds if memory, the mode and the number of functions are unchanged.

-- Each slot up to the vacant one is a slot of the ring.
pub slot_below : (l : Layout) (k : ℕ) → IsRing l → k ≤ length l.blocks → slot_at l k < l.size
slot_below l k ring h = grind arith

-- The lent blocks, and all slots with a block.
module _ {l : Layout} (ring : IsRing l) {m n : Memory} {slots blocks : ℕ → Type 0}
    (t : Stays l.ring l.size m n slots blocks) where
  pub stage_stays : (stage : Stage) → IfFresh stage blocks → StageHolds m l stage → StageHolds n l stage
  stage_stays (Lent b) is h = assumption (t.there b is ∙ h.there)
  stage_stays other is h = tt

  pub slots_stay : (here : List Piece) → ((k : ℕ) → k < length l.blocks → slots (slot_at l k))
      → ((k : ℕ) → k < length l.blocks → blocks (block_at l k)) → HasSlots m l here → HasSlots n l here
  slots_stay here all each h = grind arith

-- Numbers still identify the same registers if the mode and the number of functions are unchanged.
pub named_kept : (s t : State) (queue : ℕ) (l : Layout) → mode_in t.registers ≡ mode_in s.registers → t.vfs ≡ s.vfs
    → IsNamed s queue l → IsNamed t queue l
named_kept s t queue l mode vfs h = assumption (named-same s t mode vfs l.port l.tail ∙ h.tail)

-- What the driver saw still describes the written pieces after one more piece is written.
pub seen_longer : (seen : List Reported) (here : List Piece) (p : Piece) → AreSeen seen here →
    AreSeen seen (here ++ p ∷ [])
seen_longer [] here p is = tt
seen_longer (t ∷ ts) [] p is = absurd is
seen_longer (t ∷ ts) (q ∷ here) p is = (is.0, seen_longer ts here p is.1)

-- One more slot is seen.
pub seen_more : (seen : List Reported) (here : List Piece) (t : Reported) → AreSeen seen here →
    length seen < length here
    → Saw t (piece_at here (length seen)) → AreSeen (seen ++ t ∷ []) here
seen_more ts [] t is below saw = absurd (omega (arith, below))
seen_more [] (q ∷ here) t is below saw = (saw, tt)
seen_more (u ∷ ts) (q ∷ here) t is below saw = (is.0, seen_more ts here t is.1 (omega (arith, below)) saw)

pub seen_within : (seen : List Reported) (here : List Piece) → AreSeen seen here → length seen ≤ length here
seen_within [] here is = omega arith
seen_within (t ∷ ts) [] is = absurd is
seen_within (t ∷ ts) (q ∷ here) is = let e = seen_within ts here is.1 in omega (arith, e)

pub open_more : (seen : List Reported) (t : Reported) → AreOpen seen → IsOpen t → AreOpen (seen ++ t ∷ [])
open_more [] t is opens = (opens, tt)
open_more (u ∷ ts) t is opens = (is.0, open_more ts t is.1 opens)

pub end_more : (seen : List Reported) (t : Reported) → AreOpen seen → ends_packet t.second ≡ true →
    EndLast (seen ++ t ∷ [])
end_more [] t is end = end
end_more (u ∷ []) t is end = (is.0, end)
end_more (u ∷ w ∷ ts) t is end = (is.0, end_more (w ∷ ts) t is.1 end)

-- If the driver holds no packet, no packet has ended and no part remains, whatever was seen.
pub none_of : (seen : List Reported) → (ended_of seen no_packet ≡ []) × (left_of seen no_packet ≡ no_packet)
none_of [] = (refl, refl)
none_of (t ∷ ts) = (refl, refl)

-- One more piece of a packet.
pub open_pushed : (n : ℕ) (ps : List Piece) (p : Piece)
    → open_after n (ps ++ p ∷ []) ≡ cond p.end 0 (open_after n ps + 1)
open_pushed n [] p = refl
open_pushed n (q ∷ ps) p = open_pushed (cond q.end 0 (n + 1)) ps p

-- The state of a driver that hasn't yet taken the parts that it saw.
abbrev pub taking : Receive → Reported → List Reported → Receive
taking v t ts = record v { seen = t ∷ ts; stage = Takes }

-- The part of the next slot is taken.
module _ (out gone ps : List Piece) (v : Receive) (p : Piece) (t : Reported) (b : Block)
    (bytes : take (bytes_in t.second) b.bytes ≡ p.bytes) (whole : length b.bytes ≡ 2048) where
  -- The pieces stay in order when the part of the next slot is taken, according to what was seen.
  module _ (cut : (rest : List Piece)
      → packets_of (gone ++ rest)
      ≡ (v.handed ++ records_of (v.whole ++ [])) ++ packets_after (kept_of v.held).bytes rest)
      (parts : open_after 0 gone ≡ length v.held.bufs) (full : length (bytes_of v.held.bufs) ≡ v.held.len)
      (saw : Saw t p) where
    taken : (ts : List Reported) → EndLast (t ∷ ts) → AreSeen ts ps → out ≡ gone ++ p ∷ ps
        → InOrder out (took v (t ∷ ts) b) (gone ++ p ∷ []) ps
    taken [] last seen order = grind (arith, common_steps, open_pushed, bytes-more, take-append-add)
    taken (u ∷ ts) last seen order = grind (arith, common_steps, open_pushed, bytes-more)

pub order_on : (out gone here : List Piece) (v : Receive) (t : Reported) (ts : List Reported) (b : Block)
    → InOrder out (taking v t ts) gone here → 0 < length here
    → take (bytes_in t.second) b.bytes ≡ (piece_at here 0).bytes → length b.bytes ≡ 2048
    → InOrder out (took v (t ∷ ts) b) (gone ++ piece_at here 0 ∷ []) (drop 1 here)
order_on out gone [] v t ts b o some bytes whole = absurd (omega (arith, some))
order_on out gone (p ∷ ps) v t ts b o some bytes whole = search (arith, taken)

-- If the same packets are complete and the same parts are held, the other fields of the driver's state may change.
pub order_same : (out gone here : List Piece) (v w : Receive) → InOrder out v gone here → packets_had v ≡ packets_had w
    → still_held v ≡ still_held w → AreSeen w.seen here → IsAt w.stage w.seen w.held → InOrder out w gone here
order_same out gone here v w o had still seen stage = grind arith

-- While the driver holds no packet, what it has seen may change.
pub none_held : (out gone here : List Piece) (v : Receive) (seen : List Reported) (stage : Stage) →
    InOrder out v gone here
    → v.held ≡ no_packet → AreSeen seen here → IsAt stage seen v.held
    → InOrder out (record v { seen = seen; stage = stage }) gone here
none_held out gone here v seen stage o none are at = grind arith
