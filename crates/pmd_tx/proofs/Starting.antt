-- Proves what happens when a packet is accepted: its pieces join the outstanding ones, and its other blocks stay in
-- hand.
use Rattle.std.proofs.Common.{◌≡◌, ℕ, zero, suc, ◌+◌, ◌-◌, ◌*◌, ◌<◌, ◌≤◌, ◌==◌, true, false, All, List, [], ◌∷◌, ◌++◌, length, take, drop, get_or, refl, sym, ap, ◌∙◌, subst, arith}
use Rattle.std.specs.List.{list_any}
use Rattle.std.proofs.lemmas.List.{length-append, length-take-le, take-append-drop, take-append-le, drop_at, drop-drop, take_all, get_or-take}
use Rattle.std.proofs.lemmas.List.Elements.{All-append, All-push, All-take}
use Rattle.pmd_access.specs.NicDevice.DmaArena.Block.{Block, IsBlock}
use Rattle.pmd_access.specs.Bufs.{bytes_of, numbers_of}
use Rattle.pmd_access.specs.Packet.{Kept, kept_of}
use Rattle.pmd_access.specs.Slots.{is_ring_block}
use Rattle.pmd_access.specs.declared.packet.Packet.{Packet}
use Rattle.pmd_access.proofs.Copying.{take-append}
use Rattle.pmd_tx.specs.Pieces.{ends_packet, pieces_in, places_of}
use Rattle.pmd_tx.specs.Sending.{Sender, Layout, blocks_of, Segment, keeps, paired, parts_for, parts_in, parts_of, segments_of, accepted_by}
use Rattle.pmd_tx.specs.Shown.{AllHold, AllTell, AreDistinct, IsRing, MayStart, newest_parts, outstanding_of, sent_as}
use Rattle.pmd_tx.specs.declared.piece.Piece.{Piece}
use Rattle.pmd_tx.proofs.Distinct.{Absent, distinct-append, neither, none_of}
use Rattle.pmd_tx.proofs.Fields.{shown}
use Rattle.pmd_tx.proofs.Outstanding.{blocks-outstanding, places-append, length-outstanding, outstanding-push, places-pieces, tell-pieces, tells-push, ends-append, ends-pieces}

-- Blocks contain the parts of the bytes that they start with.
pub all-hold : (whole n : ℕ) (bs others : List Block) (len : ℕ) → length bs ≡ n → 0 < n → 2048 * (n - 1) ≤ len
    → len ≤ 2048 * n → All (λ (b : Block). IsBlock b) bs
    → AllHold (paired (numbers_of bs) (parts_in whole n (take len (bytes_of (bs ++ others))))) bs
all-hold whole zero bs others len count some full fits are = absurd (omega arith)
all-hold whole (suc n) [] others len count some full fits are = absurd (omega arith)
all-hold whole (suc zero) (b ∷ c ∷ bs) others len count some full fits are = absurd (omega arith)
all-hold whole (suc zero) (b ∷ []) others len count some full fits are =
    let size = (are 0 b (omega arith)).size in
    let front : take len (b.bytes ++ bytes_of others) ≡ take len b.bytes =
    take-append-le len b.bytes (bytes_of others) (omega (arith, size)) in
    let long : length (take len b.bytes) ≡ len = length-take-le len b.bytes (omega (arith, size)) in (
      record {
        number = refl;
        bytes = rw (front, long) refl;
      },
      tt,
    )
all-hold whole (suc (suc n)) (b ∷ bs) others len count some full fits are =
    let size = (are 0 b (omega arith)).size in
    let low : 2048 ≤ length b.bytes = omega (arith, size) in
    let all : take len (b.bytes ++ bytes_of (bs ++ others))
    ≡ b.bytes ++ take (len - 2048) (bytes_of (bs ++ others)) =
    take-append len b.bytes (bytes_of (bs ++ others))
    ∙ ap (λ (l : List ℕ). l ++ take (len - length b.bytes) (bytes_of (bs ++ others)))
    (take-whole len b.bytes (omega (arith, size)))
    ∙ ap (λ (k : ℕ). b.bytes ++ take (len - k) (bytes_of (bs ++ others))) size in
    let first : take 2048 (b.bytes ++ take (len - 2048) (bytes_of (bs ++ others))) ≡ b.bytes =
    take-append-le 2048 b.bytes (take (len - 2048) (bytes_of (bs ++ others))) low
    ∙ take-whole 2048 b.bytes (omega (arith, size)) in
    let rest : drop 2048 (b.bytes ++ take (len - 2048) (bytes_of (bs ++ others)))
    ≡ take (len - 2048) (bytes_of (bs ++ others)) =
    drop_at b.bytes (take (len - 2048) (bytes_of (bs ++ others))) 2048 size in
    rw (all, first, rest) (
      record { number = refl; bytes = take-whole (length b.bytes) b.bytes (omega arith) },
      all-hold whole (suc n) bs others (len - 2048) (omega arith) (omega arith) (omega arith) (omega arith)
          (λ k d below. are (suc k) d (omega arith)),
    )
  where
    take-whole : (k : ℕ) (xs : List ℕ) → length xs ≤ k → take k xs ≡ xs
    take-whole k xs low = take_all k xs low

-- Lemmas about properties that all pieces of a packet share.

length-pieces : (whole : ℕ) (bs : List ℕ) (len : ℕ) → length (pieces_in whole bs len) ≡ length bs
length-pieces whole [] len = refl
length-pieces whole (b ∷ []) len = refl
length-pieces whole (b ∷ c ∷ bs) len = ap suc (length-pieces whole (c ∷ bs) (len - 2048))

whole-pieces : (limit whole : ℕ) (bs : List ℕ) (len : ℕ) → whole ≤ limit
    → All (λ (p : Piece). p.whole ≤ limit) (pieces_in whole bs len)
whole-pieces limit whole [] len low k d below = absurd (omega arith)
whole-pieces limit whole (b ∷ []) len low zero d below = low
whole-pieces limit whole (b ∷ []) len low (suc k) d below = absurd (omega arith)
whole-pieces limit whole (b ∷ c ∷ bs) len low zero d below = low
whole-pieces limit whole (b ∷ c ∷ bs) len low (suc k) d below =
    whole-pieces limit whole (c ∷ bs) (len - 2048) low k d (omega arith)

places-are : (ring size whole : ℕ) (bs : List ℕ) (len : ℕ) → All (λ (n : ℕ). is_ring_block ring size n ≡ false) bs
    → All (λ (p : Piece). is_ring_block ring size p.block ≡ false) (pieces_in whole bs len)
places-are ring size whole [] len all k d below = absurd (omega arith)
places-are ring size whole (b ∷ []) len all zero d below = all 0 0 (omega arith)
places-are ring size whole (b ∷ []) len all (suc k) d below = absurd (omega arith)
places-are ring size whole (b ∷ c ∷ bs) len all zero d below = all 0 0 (omega arith)
places-are ring size whole (b ∷ c ∷ bs) len all (suc k) d below =
    places-are ring size whole (c ∷ bs) (len - 2048) (λ i e low. all (suc i) e (omega arith)) k d (omega arith)

ends-after : (ps xs : List Piece) → 0 < length xs → ends_packet xs ≡ true → ends_packet (ps ++ xs) ≡ true
ends-after ps [] some ends = absurd (omega arith)
ends-after ps (x ∷ xs) some ends = ends-append ps x xs ends

absent-take : (n k : ℕ) (xs : List ℕ) → Absent n xs → Absent n (take k xs)
absent-take n zero [] none = refl
absent-take n (suc k) [] none = refl
absent-take n zero (x ∷ xs) none = refl
absent-take n (suc k) (x ∷ xs) none =
    let parts = neither (n == x) (list_any (λ b. n == b) xs) none in
    none_of (n == x) (list_any (λ b. n == b) (take k xs)) parts.0 (absent-take n k xs parts.1)

distinct-take : (k : ℕ) (xs : List ℕ) → AreDistinct xs → AreDistinct (take k xs)
distinct-take zero [] apart = tt
distinct-take (suc k) [] apart = tt
distinct-take zero (x ∷ xs) apart = tt
distinct-take (suc k) (x ∷ xs) apart = (absent-take x k xs apart.0, distinct-take k xs apart.1)

newest-push : (ks : List Kept) (k : Kept) → newest_parts (ks ++ k ∷ []) ≡ parts_for (length k.bytes)
newest-push [] k = refl
newest-push (x ∷ []) k = refl
newest-push (x ∷ y ∷ ks) k = newest-push (y ∷ ks) k

pub length-blocks : (bs : List Block) → All (λ (b : Block). IsBlock b) bs → length (bytes_of bs) ≡ 2048 * length bs
length-blocks [] are = omega arith
length-blocks (b ∷ bs) are =
    omega (
      arith,
      length-append b.bytes (bytes_of bs),
      (are 0 b (omega arith)).size,
      length-blocks bs (λ k d below. are (suc k) d (omega arith)),
    )

numbers-take : (n : ℕ) (bs : List Block) → numbers_of (take n bs) ≡ take n (numbers_of bs)
numbers-take zero [] = refl
numbers-take (suc n) [] = refl
numbers-take zero (b ∷ bs) = refl
numbers-take (suc n) (b ∷ bs) = ap (λ (l : List ℕ). b.number ∷ l) (numbers-take n bs)

-- Lemmas about a packet in its blocks. Only the first `parts_for` blocks are needed.
module _ (p : Packet) (whole : All (λ (b : Block). IsBlock b) p.bufs) (held : p.len ≤ 2048 * length p.bufs)
    (long : 60 ≤ p.len)
  where
    abbrev n : ℕ
    n = parts_for p.len

    abbrev bytes : List ℕ
    bytes = take p.len (bytes_of p.bufs)

    pub length-kept : length bytes ≡ p.len
    length-kept = length-take-le p.len (bytes_of p.bufs) (omega (arith, length-blocks p.bufs whole, held))

    pub enough : n ≤ length p.bufs
    enough = omega (arith, held)

    pub some-parts : 0 < n
    some-parts = omega (arith, long)

    abbrev firsts : List Block
    firsts = take n p.bufs

    abbrev numbers : List ℕ
    numbers = take n (numbers_of p.bufs)

    length-firsts : length firsts ≡ n
    length-firsts = length-take-le n p.bufs enough

    pub length-numbers : length numbers ≡ n
    length-numbers =
        ap length (sym (numbers-take n p.bufs)) ∙ count firsts ∙ length-firsts
      where
        count : (bs : List Block) → length (numbers_of bs) ≡ length bs
        count [] = refl
        count (b ∷ bs) = ap suc (count bs)

    -- The pieces agree with the packet's parts.
    pub packet-tells : AllTell (pieces_in p.len numbers p.len) (parts_of bytes)
    packet-tells =
        let at : AllTell (pieces_in p.len numbers (length bytes)) (parts_in p.len (length numbers) bytes) =
        tell-pieces p.len numbers bytes (omega (arith, length-numbers, some-parts))
        (omega (arith, length-numbers, length-kept, long)) in
        rw length-kept (rw (length-kept, length-numbers) at at)

    -- The blocks contain the parts.
    pub packet-held : AllHold (paired numbers (parts_of bytes)) firsts
    packet-held =
        let at :
        AllHold (paired (numbers_of firsts) (parts_in p.len n (take p.len (bytes_of (firsts ++ drop n p.bufs)))))
        firsts =
        all-hold p.len n firsts (drop n p.bufs) p.len length-firsts some-parts (omega (arith, long)) (omega arith)
        (λ k d below. rw (get_or-take n p.bufs k d (omega (arith, length-firsts)))
        (whole k d (omega (arith, length-firsts, enough)))) in
        rw (length-kept, ← numbers-take n p.bufs) (rw (take-append-drop n p.bufs) at at)

-- Lemmas about an accepted packet, which joins the outstanding packets.
module _ (l : Layout) (ps : List Piece) (waiting : List Block) (lent poked posted done : ℕ) (ks : List Kept)
    (h : IsRing l ps waiting lent poked posted done ks) (v : Sender)
    (is : shown l ps lent poked posted done ks ≡ v) (p : Packet) (given : MayStart v p)
  where
    may : MayStart (shown l ps lent poked posted done ks) p
    may = subst (λ (x : Sender). MayStart x p) (sym is) given

    abbrev ns : List ℕ
    ns = take (parts_for p.len) (numbers_of p.bufs)

    abbrev pub new : List Piece
    new = pieces_in p.len ns p.len

    abbrev k : Kept
    k = kept_of p

    outs : length (outstanding_of ps ks) ≡ length ps
    outs = length-outstanding ps ks h.tells

    tells : AllTell new (parts_of k.bytes)
    tells = packet-tells p may.loose.whole may.held may.long

    count : length ns ≡ parts_for p.len
    count = length-numbers p may.loose.whole may.held may.long

    news : length new ≡ parts_for p.len
    news = length-pieces p.len ns p.len ∙ count

    some : 0 < parts_for p.len
    some = some-parts p may.loose.whole may.held may.long

    len : length k.bytes ≡ p.len
    len = length-kept p may.loose.whole may.held may.long

    more : outstanding_of (ps ++ new) (ks ++ k ∷ []) ≡ outstanding_of ps ks ++ segments_of (sent_as p)
    more =
        outstanding-push ps ks h.tells new k tells
        ∙ ap (λ (bs : List ℕ). outstanding_of ps ks ++ paired bs (parts_of k.bytes)) (places-pieces p.len ns p.len)

    -- The ring keeps none of the packet's blocks.
    kept_none : (n : ℕ) → keeps (shown l ps lent poked posted done ks) n ≡ false
        → (is_ring_block l.ring l.size n ≡ false) × Absent n (places_of ps)
    kept_none n none =
        let both = neither (is_ring_block l.ring l.size n)
        (list_any (λ b. n == b) (blocks_of (outstanding_of ps ks))) none in (
          both.0,
          subst (λ (bs : List ℕ). Absent n bs) (blocks-outstanding ps ks h.tells) both.1,
        )

    away : All (λ (n : ℕ). keeps (shown l ps lent poked posted done ks) n ≡ false) ns
    away =
        All-take (λ (n : ℕ). keeps (shown l ps lent poked posted done ks) n ≡ false) (parts_for p.len)
        (numbers_of p.bufs) may.loose.away

    -- The packet's blocks that aren't lent yet are in hand.
    rest_held : drop (lent + 1) (outstanding_of ps ks ++ segments_of (sent_as p)) ≡ drop 1 (segments_of (sent_as p))
    rest_held =
        sym (drop-drop 1 lent (outstanding_of ps ks ++ segments_of (sent_as p)))
        ∙ ap (λ (ss : List Segment). drop 1 ss)
        (drop_at (outstanding_of ps ks) (segments_of (sent_as p)) lent (sym may.lent))

    hold-rest : (ss : List Segment) (bs : List Block) → AllHold ss bs → AllHold (drop 1 ss) (drop 1 bs)
    hold-rest [] [] all = tt
    hold-rest [] (b ∷ bs) all = absurd all
    hold-rest (s ∷ ss) [] all = absurd all
    hold-rest (s ∷ ss) (b ∷ bs) all = all.1

    pub started_ring : IsRing l (ps ++ new) (drop 1 (take (parts_for p.len) p.bufs)) (lent + 1) poked posted done
        (ks ++ k ∷ [])
    started_ring = record {
      some = h.some;
      few = h.few;
      next = h.next;
      ring = h.ring;
      least = h.least;
      limit = h.limit;
      room = omega (arith, length-append ps new, news, outs, may.room);
      done_posted = h.done_posted;
      posted_poked = h.posted_poked;
      poked_lent = omega (arith, h.poked_lent);
      lent_known = omega (arith, length-append ps new, news, outs, may.lent, some);
      tells = tells-push ps ks h.tells new k tells;
      newest = omega (arith, length-append ps new, news, outs, may.lent, newest-push ks k, len);
      held = rw (more, rest_held)
          (hold-rest (segments_of (sent_as p)) (take (parts_for p.len) p.bufs)
          (packet-held p may.loose.whole may.held may.long));
      ends = ends-after ps new (omega (arith, news, some)) (ends-pieces p.len ns p.len);
      short = All-append (λ (q : Piece). q.whole ≤ l.limit) ps new h.short
          (whole-pieces l.limit p.len ns p.len may.short);
      kept = All-push (λ (x : Kept). length x.bytes ≤ 10240) ks k h.kept (omega (arith, len, may.short, h.limit));
      beside = All-append (λ (q : Piece). is_ring_block l.ring l.size q.block ≡ false) ps new h.beside
          (places-are l.ring l.size p.len ns p.len
          (λ i d below. (kept_none (get_or ns i d) (away i d below)).0));
      apart = rw (places-append ps new, places-pieces p.len ns p.len)
          (distinct-append (places_of ps) ns h.apart
          (distinct-take (parts_for p.len) (numbers_of p.bufs) may.loose.apart)
          (λ i d below. (kept_none (get_or ns i d) (away i d below)).1));
    }

    pub started_shown : shown l (ps ++ new) (lent + 1) poked posted done (ks ++ k ∷ []) ≡ accepted_by v (sent_as p)
    started_shown = rw more refl ∙ ap (λ (x : Sender). accepted_by x (sent_as p)) is

-- Lemmas about splitting a packet's blocks into the first and the rest.

pub firsts-split : (count : ℕ) (bs others : List Block) (first : Block) → bs ≡ first ∷ others → 0 < count
    → take count bs ≡ first ∷ take (count - 1) others
firsts-split zero bs others first is some = absurd (omega arith)
firsts-split (suc n) bs others first is some =
    let e : n ≡ suc n - 1 = omega arith in
    ap (λ (l : List Block). take (suc n) l) is ∙ ap (λ (k : ℕ). first ∷ take k others) e

pub numbers-split : (count : ℕ) (bs others : List Block) (first : Block) → bs ≡ first ∷ others → 0 < count
    → take count (numbers_of bs) ≡ first.number ∷ numbers_of (take (count - 1) others)
numbers-split count bs others first is some =
    sym (numbers-take count bs) ∙ ap numbers_of (firsts-split count bs others first is some)
