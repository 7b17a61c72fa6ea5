-- Lemmas about the block of the next segment, which is in hand.
use Rattle.std.proofs.Common.{◌≡◌, ℕ, ◌+◌, ◌-◌, ◌<◌, ◌≤◌, ◌==◌, false, List, ◌∷◌, length, take, drop, get_or, refl, sym, ap, ◌∙◌, subst, arith}
use Rattle.std.specs.List.{list_any}
use Rattle.std.proofs.lemmas.List.{take-map, take_at, length-take}
use Rattle.pmd_access.specs.NicDevice.DmaArena.Block.{Block, IsBlock}
use Rattle.pmd_access.specs.NicDevice.DmaArena.Memory.{put_bytes}
use Rattle.pmd_access.specs.Packet.{Kept}
use Rattle.pmd_access.specs.Slots.{is_ring_block}
use Rattle.pmd_tx.specs.Pieces.{places_of}
use Rattle.pmd_tx.specs.Sending.{Sender, Layout, Segment, MayLend, blocks_of, has_lent, no_segment, segment_at}
use Rattle.pmd_tx.specs.Shown.{Holds, IsRing, latest, newest_part, newest_parts, outstanding_of}
use Rattle.pmd_tx.specs.declared.piece.Piece.{Piece}
use Rattle.pmd_tx.proofs.Distinct.{before_absent, none_of}
use Rattle.pmd_tx.proofs.Fields.{count, in_hand, next_held, shown}
use Rattle.pmd_tx.proofs.Newest.{latest-newest}
use Rattle.pmd_tx.proofs.Outstanding.{blocks-outstanding, length-places, pieces-known, place-at, segment-outstanding, tell-at}

-- Bytes written at the start of a block are its first bytes.
put_start : (xs bytes : List ℕ) → take (length bytes) (put_bytes xs 0 bytes) ≡ bytes
unfolding put_bytes
put_start xs bytes = take_at bytes (drop (0 + length bytes) xs) (length bytes) refl

module _ (l : Layout) (ps : List Piece) (waiting : List Block) (lent poked posted done : ℕ) (ks : List Kept)
    (h : IsRing l ps waiting lent poked posted done ks) (b : Block) (bs : List Block) (is : waiting ≡ b ∷ bs)
  where
    abbrev next : Segment
    next = get_or (outstanding_of ps ks) lent no_segment

    pub below : lent < length ps
    below = omega (arith, in_hand l ps waiting lent poked posted done ks h, ap length is)

    abbrev piece : Piece
    piece = get_or ps lent (record { block = 0; len = 0; whole = 0; last = false })

    at : next ≡ record { block = piece.block; part = get_or (latest (length ps) ks) lent no_segment.part }
    at = segment-outstanding ps ks h.tells lent below (record { block = 0; len = 0; whole = 0; last = false })

    whole : next.part.whole ≤ l.limit
    whole =
        let tells = tell-at ps (latest (length ps) ks) h.tells lent below
        (record { block = 0; len = 0; whole = 0; last = false }) no_segment.part in
        let short = h.short lent (record { block = 0; len = 0; whole = 0; last = false }) below in
        rw (at, ← tells.whole) short

    away : has_lent (shown l ps lent poked posted done ks) next.block ≡ false
    away =
        let own = h.beside lent (record { block = 0; len = 0; whole = 0; last = false }) below in
        let place = place-at ps lent below (record { block = 0; len = 0; whole = 0; last = false }) 0 in
        let blocks : blocks_of (take lent (outstanding_of ps ks)) ≡ take lent (places_of ps) =
        sym (take-map (λ (s : Segment). s.block) lent (outstanding_of ps ks))
        ∙ ap (λ (x : List ℕ). take lent x) (blocks-outstanding ps ks h.tells) in
        let absent = before_absent (places_of ps) lent h.apart (omega (arith, below, length-places ps)) in
        rw (at, blocks)
        (none_of (is_ring_block l.ring l.size piece.block) (list_any (λ n. piece.block == n) (take lent (places_of ps)))
        own (subst (λ (n : ℕ). list_any (λ k. n == k) (take lent (places_of ps)) ≡ false) place absent))

    -- The block may be lent.
    pub next_may : (v : Sender) → shown l ps lent poked posted done ks ≡ v → IsBlock b
        → (v.lent < length v.outstanding) × MayLend v (segment_at v v.lent) b
    next_may v same block =
        let holds = (next_held l ps waiting lent poked posted done ks h b bs is).0 in
        subst (λ (x : Sender). (x.lent < length x.outstanding) × MayLend x (segment_at x x.lent) b) same (
          omega (arith, below, count l ps waiting lent poked posted done ks h),
          record {
            short = whole;
            number = holds.number;
            bytes = holds.bytes;
            whole = block.size;
            low = omega (arith, holds.number, block.small);
            away = away;
          },
        )

    -- The block's bytes are a part of the newest packet.
    pub next_left : length ps - lent ≤ newest_parts ks
    next_left = omega (arith, h.newest)

    pub next_bytes : next.part.bytes ≡ newest_part ks (length ps - lent)
    next_bytes =
        let e : length ps - (length ps - lent) ≡ lent = omega (arith, below) in
        ap (λ (s : Segment). s.part.bytes) at
        ∙ ap (λ (i : ℕ). (get_or (latest (length ps) ks) i no_segment.part).bytes) (sym e)
        ∙ latest-newest ks (length ps) (length ps - lent) (omega (arith, below)) next_left (omega arith)
        (pieces-known ps ks h.tells)

    pub next_short : IsBlock b → length (newest_part ks (length ps - lent)) ≤ 2048
    next_short block =
        let holds = (next_held l ps waiting lent poked posted done ks h b bs is).0 in
        omega (
          arith,
          ap length next_bytes,
          ap length holds.bytes,
          length-take (length next.part.bytes) b.bytes,
          block.size,
        )

    -- A block with its number contains the segment after the bytes are written into it.
    pub next_put : (d e : Block) → d.number ≡ b.number
        → e ≡ record d { bytes = put_bytes d.bytes 0 (newest_part ks (length ps - lent)) } → Holds next e
    next_put d e number put =
        let holds = (next_held l ps waiting lent poked posted done ks h b bs is).0 in
        rw put (record {
          number = number ∙ holds.number;
          bytes = rw next_bytes (put_start d.bytes (newest_part ks (length ps - lent)));
        })
