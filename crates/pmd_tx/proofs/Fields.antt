-- Proves that the ring's fields stay consistent when segments are added and removed.
use Rattle.std.proofs.Common.{◌≡◌, ℕ, suc, ◌+◌, ◌<◌, ◌≤◌, false, List, [], ◌∷◌, length, drop, get_or, refl, sym, ap, ◌∙◌, subst, arith}
use Rattle.std.proofs.lemmas.List.{length-drop, drop-drop, drop_more}
use Rattle.std.proofs.lemmas.List.Elements.{All-drop}
use Rattle.pmd_access.specs.NicDevice.DmaArena.Block.{Block}
use Rattle.pmd_access.specs.NicDevice.DmaRing.Ring.{next_of}
use Rattle.pmd_access.specs.Bufs.{numbers_of}
use Rattle.pmd_access.specs.Packet.{Kept}
use Rattle.pmd_access.specs.Slots.{blocks_for, is_ring_block}
use Rattle.pmd_access.proofs.Places.{next_below}
use Rattle.pmd_tx.specs.Pieces.{places_of}
use Rattle.pmd_tx.specs.Sending.{Sender, Layout, Segment, blocks_of, no_segment}
use Rattle.pmd_tx.specs.Shown.{AllHold, AreDistinct, Holds, IsRing, outstanding_of}
use Rattle.pmd_tx.specs.declared.piece.Piece.{Piece}
use Rattle.pmd_tx.proofs.Outstanding.{ends-drop, length-outstanding, outstanding-drop, outstanding-none, tells-drop}

-- The ring's fields as contracts see them.
abbrev pub shown : Layout → List Piece → ℕ → ℕ → ℕ → ℕ → List Kept → Sender
shown l ps lent poked posted done ks = record {
  layout = l;
  outstanding = outstanding_of ps ks;
  lent = lent;
  poked = poked;
  posted = posted;
  done = done;
  accepted = ks;
}

pub hold-length : (ss : List Segment) (bs : List Block) → AllHold ss bs → length ss ≡ length bs
hold-length [] [] all = refl
hold-length [] (b ∷ bs) all = absurd all
hold-length (s ∷ ss) [] all = absurd all
hold-length (s ∷ ss) (b ∷ bs) all = ap suc (hold-length ss bs all.1)

pub hold-numbers : (ss : List Segment) (bs : List Block) → AllHold ss bs → blocks_of ss ≡ numbers_of bs
hold-numbers [] [] all = refl
hold-numbers [] (b ∷ bs) all = absurd all
hold-numbers (s ∷ ss) [] all = absurd all
hold-numbers (s ∷ ss) (b ∷ bs) all =
    ap (λ (n : ℕ). n ∷ blocks_of ss) (sym all.0.number)
    ∙ ap (λ (l : List ℕ). b.number ∷ l) (hold-numbers ss bs all.1)

places-rest : (ps : List Piece) → AreDistinct (places_of ps) → AreDistinct (places_of (drop 1 ps))
places-rest [] apart = apart
places-rest (p ∷ ps) apart = apart.1

module _ (l : Layout) (ps : List Piece) (waiting : List Block) (lent poked posted done : ℕ) (ks : List Kept)
    (h : IsRing l ps waiting lent poked posted done ks)
  where
    abbrev outs : List Segment
    outs = outstanding_of ps ks

    pub count : length outs ≡ length ps
    count = length-outstanding ps ks h.tells

    pub in_hand : length waiting + lent ≡ length ps
    in_hand =
        omega (arith, hold-length (drop lent outs) waiting h.held, length-drop lent outs, count, h.lent_known)

    -- The first block in hand belongs to the next segment.
    pub next_held : (b : Block) (bs : List Block) → waiting ≡ b ∷ bs
        → Holds (get_or outs lent no_segment) b × AllHold (drop (lent + 1) outs) bs
    next_held b bs is =
        let some = in_hand in
        let below : lent < length outs = omega (arith, some, ap length is, count) in
        let split : drop lent outs ≡ get_or outs lent no_segment ∷ drop (lent + 1) outs =
        drop_more outs lent no_segment below in
        let both : AllHold (get_or outs lent no_segment ∷ drop (lent + 1) outs) (b ∷ bs) =
        subst (λ (x : List Block). AllHold (get_or outs lent no_segment ∷ drop (lent + 1) outs) x) is
        (subst (λ (x : List Segment). AllHold x waiting) split h.held) in
        (both.0, both.1)

    -- Another block with the same number may replace the first block in hand if it starts with the same bytes.
    pub held_again : (b d : Block) (bs : List Block) → waiting ≡ b ∷ bs → Holds (get_or outs lent no_segment) d
        → IsRing l ps (d ∷ bs) lent poked posted done ks
    held_again b d bs is holds =
        let some = in_hand in
        let below : lent < length outs = omega (arith, some, ap length is, count) in
        record {
          some = h.some;
          few = h.few;
          next = h.next;
          ring = h.ring;
          least = h.least;
          limit = h.limit;
          room = h.room;
          done_posted = h.done_posted;
          posted_poked = h.posted_poked;
          poked_lent = h.poked_lent;
          lent_known = h.lent_known;
          tells = h.tells;
          newest = h.newest;
          held = rw (drop_more outs lent no_segment below) (holds, (next_held b bs is).1);
          ends = h.ends;
          short = h.short;
          kept = h.kept;
          beside = h.beside;
          apart = h.apart;
        }

    -- The invariant still holds after one more segment is lent.
    pub lent_ring : (b : Block) (bs : List Block) → waiting ≡ b ∷ bs → IsRing l ps bs (lent + 1) poked posted done ks
    lent_ring b bs is = record {
      some = h.some;
      few = h.few;
      next = h.next;
      ring = h.ring;
      least = h.least;
      limit = h.limit;
      room = h.room;
      done_posted = h.done_posted;
      posted_poked = h.posted_poked;
      poked_lent = omega (arith, h.poked_lent);
      lent_known = omega (arith, in_hand, ap length is);
      tells = h.tells;
      newest = omega (arith, h.newest);
      held = (next_held b bs is).1;
      ends = h.ends;
      short = h.short;
      kept = h.kept;
      beside = h.beside;
      apart = h.apart;
    }

    -- The invariant still holds after the oldest segment is removed.
    pub dropped_ring : (m : Layout) (qs : List Piece) (a b c d : ℕ) → m.size ≡ l.size → m.ring ≡ l.ring
        → m.limit ≡ l.limit → m.next ≡ next_of l.size l.next → qs ≡ drop 1 ps → 0 < done → a + 1 ≡ lent
        → b + 1 ≡ poked → c + 1 ≡ posted → d + 1 ≡ done → IsRing m qs waiting a b c d ks
    dropped_ring m qs a b c d size ring limit next are some lents pokes posts dones =
        let more : 0 < length ps =
        omega (arith, h.done_posted, h.posted_poked, h.poked_lent, h.lent_known) in
        let fewer : length qs + 1 ≡ length ps = omega (arith, ap length are, length-drop 1 ps) in
        let same : drop a (outstanding_of qs ks) ≡ drop lent outs =
        ap (λ (x : List Piece). drop a (outstanding_of x ks)) are
        ∙ ap (λ (x : List Segment). drop a x) (outstanding-drop ps ks h.tells more)
        ∙ drop-drop a 1 outs ∙ ap (λ (k : ℕ). drop k outs) (let e : 1 + a ≡ lent = omega arith in e) in
        record {
          some = rw size h.some;
          few = rw size h.few;
          next = rw (size, next) (next_below l.size l.next h.next);
          ring = rw (ring, size) h.ring;
          least = rw limit h.least;
          limit = rw limit h.limit;
          room = rw size (omega (arith, h.room));
          done_posted = omega (arith, h.done_posted);
          posted_poked = omega (arith, h.posted_poked);
          poked_lent = omega (arith, h.poked_lent);
          lent_known = omega (arith, h.lent_known);
          tells = rw are (tells-drop ps ks h.tells more);
          newest = omega (arith, h.newest);
          held = rw same h.held;
          ends = rw are (ends-drop ps h.ends);
          short = rw (are, limit) (All-drop (λ (p : Piece). p.whole ≤ l.limit) 1 ps h.short);
          kept = h.kept;
          beside = rw (are, ring, size)
              (All-drop (λ (p : Piece). is_ring_block l.ring l.size p.block ≡ false) 1 ps h.beside);
          apart = rw are (places-rest ps h.apart);
        }

-- The invariant holds for a new ring, with nothing outstanding.
pub fresh_ring : (l : Layout) → 0 < l.size → l.size ≤ 1024 → l.next ≡ 0 → l.ring + blocks_for l.size ≤ 65536
    → 60 ≤ l.limit → l.limit ≤ 10240 → IsRing l [] [] 0 0 0 0 []
fresh_ring l some few next ring least limit = record {
  some = some;
  few = few;
  next = omega arith;
  ring = ring;
  least = least;
  limit = limit;
  room = some;
  done_posted = omega arith;
  posted_poked = omega arith;
  poked_lent = omega arith;
  lent_known = omega arith;
  tells = tt;
  newest = omega arith;
  held = rw (outstanding-none []) tt;
  ends = refl;
  short = λ k d below. absurd (omega arith);
  kept = λ k d below. absurd (omega arith);
  beside = λ k d below. absurd (omega arith);
  apart = tt;
}
