-- Lemmas about where the blocks of a closed ring are.
use Rattle.std.proofs.Common.{◌≡◌, ℕ, zero, suc, ◌+◌, ◌<◌, ◌≤◌, List, [], ◌∷◌, ◌++◌, length, take, slice_index_or, Bool, true, false, suc-add, refl, ap, ◌∙◌, arith}
use Rattle.std.specs.List.{range_with_len}
use Rattle.pmd_access.specs.NicDevice.DmaArena.Numbers.{Numbers, with_free}
use Rattle.pmd_access.specs.NicDevice.DmaArena.Whereabouts.{times_in_hand}
use Rattle.pmd_access.specs.Bufs.{numbers_of, with_all_free}
use Rattle.pmd_access.specs.declared.packet.Packet.{Packet}
use Rattle.pmd_access.specs.Home.{AreOut}
use Rattle.pmd_access.specs.Slots.{blocks_for}
use Rattle.pmd_access.proofs.Outside.{times-append, out_fewer, out_given}
use Rattle.pmd_rx.specs.Keeping.{fresh_block, lent_of, blocks_held, blocks_out, numbers_of_all}
use Rattle.pmd_rx.specs.Receive.{Receive, reach}
use Rattle.pmd_rx.proofs.Keeping.{times_out}

-- Blocks are returned to the arena one after the other.
pub given_both : (a : Numbers) (xs ys : List ℕ)
    → with_all_free (with_all_free a xs) ys ≡ with_all_free a (xs ++ ys)
given_both a [] ys = refl
given_both a (x ∷ xs) ys = given_both (with_free a x true) xs ys

-- The other blocks stay out of the arena.
pub all_given : (a : Numbers) (ns others : List ℕ) → AreOut a (ns ++ others) → AreOut (with_all_free a ns) others
all_given a [] others out = out
all_given a (n ∷ ns) others out = all_given (with_free a n true) ns others (out_given a (ns ++ others) n out)

-- First the blocks of the complete packets are returned to the arena, then those of the held one; all others stay out.
module _ (a : Numbers) (v : Receive) (out : AreOut a (blocks_out v)) where
  pub whole_out : AreOut a (numbers_of_all v.whole)
  whole_out =
      out_fewer a (blocks_out v) (numbers_of_all v.whole) out (λ k. omega (arith, times_out v k))

  pub held_out : AreOut (with_all_free a (numbers_of_all v.whole)) (numbers_of v.held.bufs)
  held_out =
      all_given a (numbers_of_all v.whole) (numbers_of v.held.bufs)
      (out_fewer a (blocks_out v) (blocks_held v) out (λ k. omega (arith, times-append (lent_of v) (blocks_held v) k)))

  pub closed_out : AreOut (with_all_free a (blocks_held v)) (lent_of v)
  closed_out =
      let ns = blocks_held v in
      all_given a ns (lent_of v)
      (out_fewer a (blocks_out v) (ns ++ lent_of v) out
      (λ k. omega (arith, times-append (lent_of v) ns k, times-append ns (lent_of v) k)))

-- The first packet's blocks are returned, then the other packets' blocks.
module _ (a : Numbers) (p : Packet) (ps : List Packet) where
  pub first_out : AreOut a (numbers_of_all (p ∷ ps)) → AreOut a (numbers_of p.bufs)
  first_out out =
      out_fewer a (numbers_of_all (p ∷ ps)) (numbers_of p.bufs) out
      (λ k. omega (arith, times-append (numbers_of p.bufs) (numbers_of_all ps) k))

  pub others_out : AreOut a (numbers_of_all (p ∷ ps)) → AreOut (with_all_free a (numbers_of p.bufs)) (numbers_of_all ps)
  others_out out = all_given a (numbers_of p.bufs) (numbers_of_all ps) out

  pub others_given : with_all_free (with_all_free a (numbers_of p.bufs)) (numbers_of_all ps)
      ≡ with_all_free a (numbers_of_all (p ∷ ps))
  others_given = given_both a (numbers_of p.bufs) (numbers_of_all ps)

-- A block of one packet is among the blocks of all of them.

pub times_part : (ps : List Packet) (k : ℕ) (d : Packet) (n : ℕ) → k < length ps
    → times_in_hand (numbers_of (slice_index_or ps k d).bufs) n ≤ times_in_hand (numbers_of_all ps) n
times_part [] k d n below = absurd (omega (arith, below))
times_part (p ∷ ps) zero d n below = omega (arith, times-append (numbers_of p.bufs) (numbers_of_all ps) n)
times_part (p ∷ ps) (suc k) d n below =
    omega (
      arith,
      times-append (numbers_of p.bufs) (numbers_of_all ps) n,
      times_part ps k d n (omega (arith, below)),
    )

next_at : (p : Packet) (ps : List Packet) (k : ℕ) (d : Packet)
    → slice_index_or (p ∷ ps) (suc k) d ≡ slice_index_or ps k d
next_at p ps k d = refl

next_first : (p : Packet) (ps : List Packet) (k n : ℕ)
    → times_in_hand (numbers_of_all (take (suc k) (p ∷ ps))) n
    ≡ times_in_hand (numbers_of p.bufs) n + times_in_hand (numbers_of_all (take k ps)) n
next_first p ps k n = times-append (numbers_of p.bufs) (numbers_of_all (take k ps)) n

pub times_next : (ps : List Packet) (k : ℕ) (d : Packet) (n : ℕ) → k < length ps
    → times_in_hand (numbers_of_all (take (k + 1) ps)) n
    ≡ times_in_hand (numbers_of_all (take k ps)) n + times_in_hand (numbers_of (slice_index_or ps k d).bufs) n
times_next [] k d n below = absurd (omega (arith, below))
times_next (p ∷ ps) zero d n below = omega (arith, times-append (numbers_of p.bufs) [] n)
times_next (p ∷ ps) (suc k) d n below =
    omega (
      arith,
      ap (λ (i : ℕ). times_in_hand (numbers_of_all (take i (p ∷ ps))) n) (suc-add k 1),
      next_first p ps (k + 1) n,
      next_first p ps k n,
      ap (λ (q : Packet). times_in_hand (numbers_of q.bufs) n) (next_at p ps k d),
      times_next ps k d n (omega (arith, below)),
    )

pub none_there : (b : Bool) (n : ℕ) → (0 < n → b ≡ true) → b ≡ false → n ≡ 0
none_there b zero there other = refl
none_there b (suc n) there other = let is = there (omega arith) in cc

-- The blocks that a ring has lent, given by its parts.
pub lent_is : (v : Receive) (lent kept blocks fresh : List ℕ) (ring many size : ℕ)
    → lent ≡ kept ++ (fresh ++ range_with_len ring many) → kept ≡ blocks → fresh ≡ fresh_block v.stage
    → blocks ≡ (reach v).blocks → ring ≡ v.layout.ring → many ≡ blocks_for size → size ≡ v.layout.size
    → lent ≡ lent_of v
lent_is v lent kept blocks fresh ring many size is same first stand own few sized =
    is ∙ ap (λ (xs : List ℕ). xs ++ (fresh ++ range_with_len ring many)) (same ∙ stand)
    ∙ ap (λ (xs : List ℕ). (reach v).blocks ++ (xs ++ range_with_len ring many)) first
    ∙ ap (λ (r : ℕ). (reach v).blocks ++ (fresh_block v.stage ++ range_with_len r many)) own
    ∙ ap (λ (n : ℕ). (reach v).blocks ++ (fresh_block v.stage ++ range_with_len v.layout.ring n))
    (few ∙ ap (λ (n : ℕ). blocks_for n) sized)
