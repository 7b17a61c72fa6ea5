-- Lemmas about the blocks of an accepted packet, one for each part of the packet.
use Rattle.std.proofs.Common.{◌≡◌, ℕ, zero, suc, ◌-◌, ◌*◌, ◌<◌, ◌≤◌, All, List, [], ◌∷◌, ◌++◌, length, take, drop, replicate, refl, ap, ◌∙◌, arith}
use Rattle.std.proofs.lemmas.List.{length-append, length-replicate, length-take-le, map-append}
use Rattle.pmd_access.specs.NicDevice.DmaArena.Block.{Block, IsBlock}
use Rattle.pmd_access.specs.Bufs.{bytes_of, numbers_of}
use Rattle.pmd_access.specs.declared.packet.Packet.{Packet}
use Rattle.pmd_tx.specs.Sending.{Sender, Part, Segment, blocks_of, paired, parts_for, parts_in, parts_of, segments_of}
use Rattle.pmd_tx.specs.Sends.{IsAccepted, outgoing_of, padded}

pub many_parts : (whole n : ℕ) (bytes : List ℕ) → length (parts_in whole n bytes) ≡ n
many_parts whole zero bytes = refl
many_parts whole (suc zero) bytes = refl
many_parts whole (suc (suc n)) bytes = ap suc (many_parts whole (suc n) (drop 2048 bytes))

each_placed : (bs : List ℕ) (qs : List Part) → length bs ≤ length qs → blocks_of (paired bs qs) ≡ bs
each_placed [] qs low = refl
each_placed (b ∷ bs) [] low = absurd (omega (arith, low))
each_placed (b ∷ bs) (q ∷ qs) low = ap (λ (l : List ℕ). b ∷ l) (each_placed bs qs (omega (arith, low)))

all_bytes : (bs : List Block) → All (λ (b : Block). IsBlock b) bs → length (bytes_of bs) ≡ 2048 * length bs
all_bytes [] are = refl
all_bytes (b ∷ bs) are =
    omega (
      arith,
      length-append b.bytes (bytes_of bs),
      (are 0 b (omega arith)).size,
      all_bytes bs (λ k d below. are (suc k) d (omega (arith, below))),
    )

take_few : (k : ℕ) (xs : List ℕ) → length (take k xs) ≤ k
take_few zero xs = omega arith
take_few (suc k) [] = omega arith
take_few (suc k) (x ∷ xs) = omega (arith, take_few k xs)

module _ (p : Packet) (whole : All (λ (b : Block). IsBlock b) p.bufs) (some : 0 < p.len)
    (held : p.len ≤ 2048 * length p.bufs)
  where
    abbrev bytes : List ℕ
    bytes = take p.len (bytes_of p.bufs)

    kept : length bytes ≡ p.len
    kept = length-take-le p.len (bytes_of p.bufs) (omega (arith, all_bytes p.bufs whole, held))

    -- A packet below 60 bytes has one part, before and after padding.
    parts_padded : parts_for p.len ≤ parts_for (length (padded bytes))
    parts_padded =
        omega (
          arith,
          kept,
          some,
          length-append bytes (replicate (60 - length bytes) 0),
          length-replicate {A = ℕ} (60 - length bytes) 0,
        )

    pub placed : blocks_of (segments_of (outgoing_of p)) ≡ take (parts_for p.len) (numbers_of p.bufs)
    placed =
        each_placed (take (parts_for p.len) (numbers_of p.bufs)) (parts_of (padded bytes))
        (omega (
          arith,
          take_few (parts_for p.len) (numbers_of p.bufs),
          parts_padded,
          many_parts (length (padded bytes)) (parts_for (length (padded bytes))) (padded bytes),
        ))

    pub blocks_accepted : (v w : Sender) → IsAccepted v p w
        → blocks_of w.outstanding ≡ blocks_of v.outstanding ++ take (parts_for p.len) (numbers_of p.bufs)
    blocks_accepted v w accepted =
        ap (λ (l : List Segment). blocks_of l) accepted.outstanding
        ∙ map-append (λ (s : Segment). s.block) v.outstanding (segments_of (outgoing_of p))
        ∙ ap (λ (l : List ℕ). blocks_of v.outstanding ++ l) placed
