-- Lemmas about blocks that return to the driver's arena.
use Rattle.std.proofs.Common.{◌≡◌, ℕ, ◌+◌, ◌<◌, ◌≤◌, true, false, if◌then◌else◌, List, [], ◌∷◌, ◌++◌, length, take, drop, get_or, refl, sym, ap, ◌∙◌, subst, arith}
use Rattle.std.proofs.lemmas.List.{length-drop, drop-drop, drop-take, take-take, drop-map, take-append-drop}
use Rattle.std.proofs.Math.Seq.{take-add}
use Rattle.pmd_access.specs.NicDevice.DmaArena.Numbers.{Numbers, is_own, is_free, with_free}
use Rattle.pmd_access.specs.Bufs.{with_all_free}
use Rattle.pmd_access.proofs.Outside.{out_first, out_given}
use Rattle.pmd_access.specs.Home.{AreOut}
use Rattle.pmd_tx.specs.Sending.{Sender, Segment, no_segment, blocks_of, segment_at, reaped}
use Rattle.pmd_tx.specs.Sends.{Frees, ends_in}

-- Freeing two lists of blocks, one after the other, is the same as freeing their concatenation.

free-append : (a : Numbers) (xs ys : List ℕ) → with_all_free (with_all_free a xs) ys ≡ with_all_free a (xs ++ ys)
free-append a [] ys = refl
free-append a (n ∷ xs) ys = free-append (with_free a n true) xs ys

taken-both : (xs : List ℕ) (m n : ℕ) → take m xs ++ take n (drop m xs) ≡ take (m + n) xs
taken-both xs m n =
    let le : m ≤ m + n = omega arith in
    ap (λ (l : List ℕ). l ++ take n (drop m xs)) (sym (take-take m (m + n) xs le))
    ∙ ap (λ (l : List ℕ). take m (take (m + n) xs) ++ l) (sym (drop-take m n xs))
    ∙ take-append-drop m (take (m + n) xs)

ends-append : (xs ys : List Segment) → ends_in (xs ++ ys) ≡ ends_in xs + ends_in ys
ends-append [] ys = omega arith
ends-append (x ∷ xs) ys = omega (arith, ends-append xs ys)

ends-both : (xs : List Segment) (m n : ℕ)
    → ends_in (take (m + n) xs) ≡ ends_in (take m xs) + ends_in (take n (drop m xs))
ends-both xs m n = ap ends_in (take-add m n xs) ∙ ends-append (take m xs) (take n (drop m xs))

pub frees_none : (v w : Sender) (a b : Numbers) → w.outstanding ≡ v.outstanding → b ≡ a → Frees v w a b 0 0
frees_none v w a b same kept = record { few = omega arith; left = same; home = kept; packets_are = refl }

pub frees_both : (u v w : Sender) (a b d : Numbers) (m n i j : ℕ) → Frees u v a b m i → Frees v w b d n j
    → Frees u w a d (m + n) (i + j)
frees_both u v w a b d m n i j f g =
    let xs = u.outstanding in
    let bs = blocks_of u.outstanding in
    let rest : blocks_of v.outstanding ≡ drop m bs =
    ap blocks_of f.left ∙ sym (drop-map (λ (p : Segment). p.block) m xs) in
    record {
      few = omega (arith, f.few, g.few, ap length f.left, length-drop m xs);
      left = g.left ∙ ap (λ (l : List Segment). drop n l) f.left ∙ drop-drop n m xs;
      home =
          g.home ∙ ap (λ (l : List ℕ). with_all_free b (take n l)) rest
          ∙ ap (λ (x : Numbers). with_all_free x (take n (drop m bs))) f.home
          ∙ free-append a (take m bs) (take n (drop m bs)) ∙ ap (with_all_free a) (taken-both bs m n);
      packets_are =
          omega (
            arith,
            f.packets_are,
            ends-both xs m n,
            g.packets_are,
            ap (λ (l : List Segment). ends_in (take n l)) f.left,
          );
    }

-- Lemmas about the block of the oldest segment.

first_block : (n : ℕ) (xs : List Segment) → 0 < length xs → n ≡ (get_or xs 0 no_segment).block
    → blocks_of xs ≡ n ∷ blocks_of (drop 1 xs)
first_block n [] some first = absurd (omega arith)
first_block n (p ∷ ps) some first = ap (λ (m : ℕ). m ∷ blocks_of ps) (sym first)

pub frees_one : (v w : Sender) (a b : Numbers) (n : ℕ) → 0 < length v.outstanding → n ≡ (segment_at v 0).block
    → w ≡ reaped v → b ≡ with_free a n true → Frees v w a b 1 (if (segment_at v 0).part.last then 1 else 0)
frees_one v w a b n some first is gave = record {
  few = omega arith;
  left = ap (λ (x : Sender). x.outstanding) is;
  home = gave ∙ sym (ap (λ (l : List ℕ). with_all_free a (take 1 l)) (first_block n v.outstanding some first));
  packets_are = first_ends v.outstanding some;
}
  where
    first_ends : (xs : List Segment) → 0 < length xs
        → (if (get_or xs 0 no_segment).part.last then 1 else 0) ≡ ends_in (take 1 xs)
    first_ends [] none = absurd (omega arith)
    first_ends (x ∷ xs) more = omega arith

module _ (a : Numbers) (v : Sender) (n : ℕ) (some : 0 < length v.outstanding) (first : n ≡ (segment_at v 0).block)
    (out : AreOut a (blocks_of v.outstanding))
  where
    abbrev others : List ℕ
    others = blocks_of (drop 1 v.outstanding)

    oldest_first : AreOut a (n ∷ others)
    oldest_first = subst (AreOut a) (first_block n v.outstanding some first) out

    -- The arena owns this block, and the block isn't free.
    pub oldest_out : (is_own a n ≡ true) × (is_free a n ≡ false)
    oldest_out = let here = out_first a others n oldest_first in (here.0, here.1)

    -- After this block is freed, the other blocks stay out.
    pub out_rest : (b : Numbers) (w : Sender) → w ≡ reaped v → b ≡ with_free a n true
        → AreOut b (blocks_of w.outstanding)
    out_rest b w is gave = rw (is, gave) (out_given a others n oldest_first)

-- Which blocks are freed depends only on the outstanding segments.
pub frees_from : (v w x : Sender) (a b : Numbers) (n i : ℕ) → w.outstanding ≡ v.outstanding → Frees w x a b n i
    → Frees v x a b n i
frees_from v w x a b n i same f = record {
  few = subst (λ (l : List Segment). n ≤ length l) same f.few;
  left = f.left ∙ ap (λ (l : List Segment). drop n l) same;
  home = f.home ∙ ap (λ (l : List Segment). with_all_free a (take n (blocks_of l))) same;
  packets_are = f.packets_are ∙ ap (λ (l : List Segment). ends_in (take n l)) same;
}
