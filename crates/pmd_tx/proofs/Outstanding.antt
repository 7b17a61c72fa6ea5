-- Lemmas about the outstanding segments, which are determined by the driver's pieces and the accepted packets.
use Rattle.std.proofs.Common.{◌≡◌, ℕ, zero, suc, ◌+◌, ◌-◌, ◌*◌, ◌<◌, ◌≤◌, ◌==◌, ◌||◌, Bool, true, false, List, [], ◌∷◌, ◌++◌, length, drop, get_or, if◌then◌else◌, refl, sym, ap, ◌∙◌, subst, arith, append_assoc}
use Rattle.std.specs.List.{list_any}
use Rattle.std.proofs.lemmas.List.{append-nil, length-append, length-drop, length-take-le, drop-drop, drop-append-le}
use Rattle.pmd_access.specs.Packet.{Kept}
use Rattle.pmd_tx.specs.Pieces.{ends_packet, first_last, pieces_in, places_of}
use Rattle.pmd_tx.specs.Sending.{Part, Segment, no_segment, blocks_of, first_end, paired, parts_in, parts_of}
use Rattle.pmd_tx.specs.Shown.{AllTell, Tells, all_parts, latest, outstanding_of}
use Rattle.pmd_tx.specs.declared.piece.Piece.{Piece}

-- Lemmas about pieces and the parts that they agree with.

pub tell-length : (ps : List Piece) (qs : List Part) → AllTell ps qs → length ps ≡ length qs
tell-length [] [] all = refl
tell-length [] (q ∷ qs) all = absurd all
tell-length (p ∷ ps) [] all = absurd all
tell-length (p ∷ ps) (q ∷ qs) all = ap suc (tell-length ps qs all.1)

pub tell-at : (ps : List Piece) (qs : List Part) → AllTell ps qs → (i : ℕ) → i < length ps → (d : Piece) (e : Part)
    → Tells (get_or ps i d) (get_or qs i e)
tell-at [] qs all i below d e = absurd (omega arith)
tell-at (p ∷ ps) [] all i below d e = absurd all
tell-at (p ∷ ps) (q ∷ qs) all zero below d e = all.0
tell-at (p ∷ ps) (q ∷ qs) all (suc i) below d e = tell-at ps qs all.1 i (omega arith) d e

pub tell-append : (ps xs : List Piece) (qs ys : List Part) → AllTell ps qs → AllTell xs ys
    → AllTell (ps ++ xs) (qs ++ ys)
tell-append [] xs [] ys all more = more
tell-append [] xs (q ∷ qs) ys all more = absurd all
tell-append (p ∷ ps) xs [] ys all more = absurd all
tell-append (p ∷ ps) xs (q ∷ qs) ys all more = (all.0, tell-append ps xs qs ys all.1 more)

pub tell-drop : (ps : List Piece) (qs : List Part) → AllTell ps qs → AllTell (drop 1 ps) (drop 1 qs)
tell-drop [] [] all = tt
tell-drop [] (q ∷ qs) all = absurd all
tell-drop (p ∷ ps) [] all = absurd all
tell-drop (p ∷ ps) (q ∷ qs) all = all.1

-- Lemmas about segments made from blocks and parts.

pub length-places : (ps : List Piece) → length (places_of ps) ≡ length ps
length-places [] = refl
length-places (p ∷ ps) = ap suc (length-places ps)

pub place-at : (ps : List Piece) (i : ℕ) → i < length ps → (d : Piece) (e : ℕ)
    → get_or (places_of ps) i e ≡ (get_or ps i d).block
place-at [] i below d e = absurd (omega arith)
place-at (p ∷ ps) zero below d e = refl
place-at (p ∷ ps) (suc i) below d e = place-at ps i (omega arith) d e

pub places-append : (ps xs : List Piece) → places_of (ps ++ xs) ≡ places_of ps ++ places_of xs
places-append [] xs = refl
places-append (p ∷ ps) xs = ap (λ (l : List ℕ). p.block ∷ l) (places-append ps xs)

places-drop : (ps : List Piece) → places_of (drop 1 ps) ≡ drop 1 (places_of ps)
places-drop [] = refl
places-drop (p ∷ ps) = refl

blocks-paired : (bs : List ℕ) (qs : List Part) → length bs ≡ length qs → blocks_of (paired bs qs) ≡ bs
blocks-paired [] qs same = refl
blocks-paired (b ∷ bs) [] same = absurd (omega arith)
blocks-paired (b ∷ bs) (q ∷ qs) same = ap (λ (l : List ℕ). b ∷ l) (blocks-paired bs qs (omega arith))

length-paired : (bs : List ℕ) (qs : List Part) → length bs ≡ length qs → length (paired bs qs) ≡ length bs
length-paired [] qs same = refl
length-paired (b ∷ bs) [] same = absurd (omega arith)
length-paired (b ∷ bs) (q ∷ qs) same = ap suc (length-paired bs qs (omega arith))

at-paired : (ps : List Piece) (qs : List Part) (i : ℕ) → length ps ≡ length qs → i < length ps → (d : Piece)
    → get_or (paired (places_of ps) qs) i no_segment
    ≡ record { block = (get_or ps i d).block; part = get_or qs i no_segment.part }
at-paired [] qs i same below d = absurd (omega arith)
at-paired (p ∷ ps) [] i same below d = absurd (omega arith)
at-paired (p ∷ ps) (q ∷ qs) zero same below d = refl
at-paired (p ∷ ps) (q ∷ qs) (suc i) same below d = at-paired ps qs i (omega arith) (omega arith) d

paired-append : (bs cs : List ℕ) (qs rs : List Part) → length bs ≡ length qs
    → paired (bs ++ cs) (qs ++ rs) ≡ paired bs qs ++ paired cs rs
paired-append [] cs [] rs same = refl
paired-append [] cs (q ∷ qs) rs same = absurd (omega arith)
paired-append (b ∷ bs) cs [] rs same = absurd (omega arith)
paired-append (b ∷ bs) cs (q ∷ qs) rs same =
    ap (λ (l : List Segment). record { block = b; part = q } ∷ l) (paired-append bs cs qs rs (omega arith))

paired-drop : (bs : List ℕ) (qs : List Part) → length bs ≡ length qs
    → paired (drop 1 bs) (drop 1 qs) ≡ drop 1 (paired bs qs)
paired-drop [] [] same = refl
paired-drop [] (q ∷ qs) same = absurd (omega arith)
paired-drop (b ∷ bs) [] same = absurd (omega arith)
paired-drop (b ∷ bs) (q ∷ qs) same = refl

-- Lemmas about the latest parts.

all_parts-push : (ks : List Kept) (k : Kept) → all_parts (ks ++ k ∷ []) ≡ all_parts ks ++ parts_of k.bytes
all_parts-push [] k = append-nil (parts_of k.bytes)
all_parts-push (x ∷ ks) k =
    ap (λ (l : List Part). parts_of x.bytes ++ l) (all_parts-push ks k)
    ∙ sym (append_assoc (parts_of x.bytes) (all_parts ks) (parts_of k.bytes))

module _ (ps : List Piece) (ks : List Kept) (tells : AllTell ps (latest (length ps) ks)) where
  abbrev parts : List Part
  parts = all_parts ks

  same : length ps ≡ length (latest (length ps) ks)
  same = tell-length ps (latest (length ps) ks) tells

  -- Every piece has its part among the accepted packets.
  pub pieces-known : length ps ≤ length parts
  pieces-known = omega (arith, same, length-drop (length parts - length ps) parts)

  places-count : length (places_of ps) ≡ length (latest (length ps) ks)
  places-count = length-places ps ∙ same

  pub blocks-outstanding : blocks_of (outstanding_of ps ks) ≡ places_of ps
  unfolding outstanding_of
  blocks-outstanding = blocks-paired (places_of ps) (latest (length ps) ks) places-count

  pub length-outstanding : length (outstanding_of ps ks) ≡ length ps
  unfolding outstanding_of
  length-outstanding = length-paired (places_of ps) (latest (length ps) ks) places-count ∙ length-places ps

  pub segment-outstanding : (i : ℕ) → i < length ps → (d : Piece)
      → get_or (outstanding_of ps ks) i no_segment
      ≡ record { block = (get_or ps i d).block; part = get_or (latest (length ps) ks) i no_segment.part }
  unfolding outstanding_of
  segment-outstanding i below d = at-paired ps (latest (length ps) ks) i same below d

  -- The latest parts without the oldest.
  latest-drop : (n : ℕ) → n + 1 ≡ length ps → latest n ks ≡ drop 1 (latest (length ps) ks)
  latest-drop n one =
      let at : length parts - n ≡ (length parts - length ps) + 1 = omega (arith, pieces-known) in
      ap (λ (m : ℕ). drop m parts) at ∙ sym (drop-drop 1 (length parts - length ps) parts)

  module _ (some : 0 < length ps) where
    fewer : length (drop 1 ps) + 1 ≡ length ps
    fewer = omega (arith, length-drop 1 ps)

    pub tells-drop : AllTell (drop 1 ps) (latest (length (drop 1 ps)) ks)
    tells-drop = rw (latest-drop (length (drop 1 ps)) fewer) (tell-drop ps (latest (length ps) ks) tells)

    pub outstanding-drop : outstanding_of (drop 1 ps) ks ≡ drop 1 (outstanding_of ps ks)
    unfolding outstanding_of
    outstanding-drop =
        rw (latest-drop (length (drop 1 ps)) fewer, places-drop ps)
        (paired-drop (places_of ps) (latest (length ps) ks) places-count)

  -- Lemmas about accepting one more packet.
  module _ (xs : List Piece) (k : Kept) (more : AllTell xs (parts_of k.bytes)) where
    latest-push : latest (length (ps ++ xs)) (ks ++ k ∷ []) ≡ latest (length ps) ks ++ parts_of k.bytes
    latest-push =
        let all = all_parts-push ks k in
        let count = tell-length xs (parts_of k.bytes) more in
        let at : length (all_parts (ks ++ k ∷ [])) - length (ps ++ xs) ≡ length parts - length ps =
        omega (arith, ap length all, length-append parts (parts_of k.bytes), length-append ps xs, count) in
        let low : length parts - length ps ≤ length parts = omega arith in
        ap (λ (n : ℕ). drop n (all_parts (ks ++ k ∷ []))) at
        ∙ ap (λ (l : List Part). drop (length parts - length ps) l) all
        ∙ drop-append-le (length parts - length ps) parts (parts_of k.bytes) low

    pub tells-push : AllTell (ps ++ xs) (latest (length (ps ++ xs)) (ks ++ k ∷ []))
    tells-push = rw latest-push (tell-append ps xs (latest (length ps) ks) (parts_of k.bytes) tells more)

    pub outstanding-push : outstanding_of (ps ++ xs) (ks ++ k ∷ [])
        ≡ outstanding_of ps ks ++ paired (places_of xs) (parts_of k.bytes)
    unfolding outstanding_of
    outstanding-push =
        rw (latest-push, places-append ps xs)
        (paired-append (places_of ps) (places_of xs) (latest (length ps) ks) (parts_of k.bytes) places-count)

-- Without pieces, nothing is outstanding.
pub outstanding-none : (ks : List Kept) → outstanding_of [] ks ≡ []
unfolding outstanding_of
outstanding-none ks = refl

-- Lemmas about the first segment that ends a packet.

first-paired : (ps : List Piece) (qs : List Part) → AllTell ps qs → first_end (paired (places_of ps) qs) ≡ first_last ps
first-paired [] [] all = refl
first-paired [] (q ∷ qs) all = absurd all
first-paired (p ∷ ps) [] all = absurd all
first-paired (p ∷ ps) (q ∷ qs) all =
    ap (λ (b : Bool). if b then 0 else first_end (paired (places_of ps) qs) + 1) (sym all.0.last)
    ∙ ap (λ (n : ℕ). if p.last then 0 else n + 1) (first-paired ps qs all.1)

pub first-outstanding : (ps : List Piece) (ks : List Kept) → AllTell ps (latest (length ps) ks)
    → first_end (outstanding_of ps ks) ≡ first_last ps
unfolding outstanding_of
first-outstanding ps ks all = first-paired ps (latest (length ps) ks) all

last-of : (p q : Piece) (ps : List Piece) (b : Bool) → first_last (q ∷ ps) < suc (length ps)
    → (if b then 0 else first_last (q ∷ ps) + 1) < suc (suc (length ps))
last-of p q ps true below = omega arith
last-of p q ps false below = omega arith

pub first-below : (ps : List Piece) → ends_packet ps ≡ true → 0 < length ps → first_last ps < length ps
first-below [] ends some = absurd (omega arith)
first-below (p ∷ []) ends some = rw ends (omega arith)
first-below (p ∷ q ∷ ps) ends some = last-of p q ps p.last (first-below (q ∷ ps) ends (omega arith))

pub ends-drop : (ps : List Piece) → ends_packet ps ≡ true → ends_packet (drop 1 ps) ≡ true
ends-drop [] ends = refl
ends-drop (p ∷ []) ends = refl
ends-drop (p ∷ q ∷ ps) ends = ends

pub ends-append : (ps : List Piece) (x : Piece) (xs : List Piece) → ends_packet (x ∷ xs) ≡ true
    → ends_packet (ps ++ x ∷ xs) ≡ true
ends-append [] x xs ends = ends
ends-append (p ∷ []) x xs ends = ends
ends-append (p ∷ q ∷ ps) x xs ends = ends-append (q ∷ ps) x xs ends

-- Lemmas about the pieces of a packet.

pub places-pieces : (whole : ℕ) (bs : List ℕ) (len : ℕ) → places_of (pieces_in whole bs len) ≡ bs
places-pieces whole [] len = refl
places-pieces whole (b ∷ []) len = refl
places-pieces whole (b ∷ c ∷ bs) len = ap (λ (l : List ℕ). b ∷ l) (places-pieces whole (c ∷ bs) (len - 2048))

pub ends-pieces : (whole : ℕ) (bs : List ℕ) (len : ℕ) → ends_packet (pieces_in whole bs len) ≡ true
ends-pieces whole [] len = refl
ends-pieces whole (b ∷ []) len = refl
ends-pieces whole (b ∷ c ∷ []) len = refl
ends-pieces whole (b ∷ c ∷ d ∷ bs) len = ends-pieces whole (c ∷ d ∷ bs) (len - 2048)

pub tell-pieces : (whole : ℕ) (bs : List ℕ) (bytes : List ℕ) → 0 < length bs
    → 2048 * (length bs - 1) ≤ length bytes
    → AllTell (pieces_in whole bs (length bytes)) (parts_in whole (length bs) bytes)
tell-pieces whole [] bytes some full = absurd (omega arith)
tell-pieces whole (b ∷ []) bytes some full = (record { len = refl; whole = refl; last = refl }, tt)
tell-pieces whole (b ∷ c ∷ bs) bytes some full = (
  record { len = sym (length-take-le 2048 bytes (omega arith)); whole = refl; last = refl },
  subst (λ (n : ℕ). AllTell (pieces_in whole (c ∷ bs) n) (parts_in whole (suc (length bs)) (drop 2048 bytes)))
      (length-drop 2048 bytes)
      (tell-pieces whole (c ∷ bs) (drop 2048 bytes) (omega arith) (omega (arith, length-drop 2048 bytes))),
)

-- Whether a piece is in a block.
pub any-places : (n : ℕ) (ps : List Piece) → list_any (λ (p : Piece). n == p.block) ps
    ≡ list_any (λ b. n == b) (places_of ps)
any-places n [] = refl
any-places n (p ∷ ps) = ap (λ (b : Bool). n == p.block || b) (any-places n ps)

pub ruleset outstanding = (
  blocks-outstanding,
  length-outstanding,
  segment-outstanding,
  first-outstanding,
  first-below,
  outstanding-drop,
  outstanding-none,
)
