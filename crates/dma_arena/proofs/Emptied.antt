-- Lemmas about a list without blocks, and about which blocks are free according to a list.
use Rattle.std.proofs.Common.{◌≡◌, ◌≢◌, ℕ, zero, suc, ◌+◌, ◌-◌, ◌<◌, ◌≤◌, inl, inr, Option, Some, None, List, ◌∷◌, ◌++◌, length, get_or, set, map, replicate, Bool, true, false, refl, sym, ap, ◌∙◌, arith}
use Rattle.std.specs.Prelude.{is_some, count_by}
use Rattle.std.proofs.lemmas.Bool.{cases_eq}
use Rattle.std.proofs.lemmas.List.{length-replicate}
use Rattle.dma_arena.specs.Links.{list_end, nodes_of, IsLinked}
use Rattle.dma_arena.specs.declared.links.Links.{Links}
use Rattle.dma_arena.proofs.Numbers.{count_by-of_none}
use Rattle.dma_arena.proofs.Nodes.{nodes-end, nodes-block, within, marked}
use Rattle.dma_arena.proofs.Ring.{same, no_block}

-- The content of a slot without a free block.
abbrev pub no_links : Option Links
no_links = None

none_in : (n p : ℕ) → get_or (replicate n no_links) p None ≡ None
none_in zero zero = refl
none_in zero (suc p) = refl
none_in (suc n) zero = refl
none_in (suc n) (suc p) = none_in n p

only_end : (e : Links) (n p : ℕ) (l : Links) → nodes_of e (replicate n None) p ≡ Some l → (p ≡ list_end) × (l ≡ e)
only_end e n p l there = elim (cases_eq p list_end) [
  | inl is ↦ (is, same (nodes_of e (replicate n None) p) l e there (nodes-end e (replicate n None) p is))
  | inr ne ↦ let h : Some l ≡ None = sym there ∙ nodes-block e (replicate n None) p ne ∙ none_in n p in cc
]

abbrev pub at_end : Links
at_end = record { next = list_end; prev = list_end }

pub IsLinked-empty : (n : ℕ) → n ≤ list_end → IsLinked at_end (replicate n None)
IsLinked-empty n small = record {
  small = omega (arith, small, length-replicate n no_links);
  rank = λ p. 0;
  ring = record {
    next = λ p l there. let o = only_end at_end n p l there in
        (at_end, nodes-end at_end (replicate n None) l.next (ap (λ (z : Links). z.next) o.1), sym o.0);
    prev = λ p l there. let o = only_end at_end n p l there in
        (at_end, nodes-end at_end (replicate n None) l.prev (ap (λ (z : Links). z.prev) o.1), sym o.0);
    falls = λ p l there ne. absurd (ne (only_end at_end n p l there).0);
  };
}

-- A list whose end is linked to itself contains no block.
not_free : (e : Links) (s : List (Option Links)) → IsLinked e s → e.next ≡ list_end → (p : ℕ) (o : Option Links)
    → get_or s p None ≡ o → is_some o ≡ false
not_free e s linked first p None at = refl
not_free e s linked first p (Some l) at =
    let lt : p < length s = within s p (ap is_some at) in
    let ne : p ≢ list_end = λ is. absurd (omega (arith, lt, linked.small, is)) in
    absurd
    (no_block (nodes_of e s) linked.rank linked.ring e (nodes-end e s list_end refl) first (suc (linked.rank p)) p l
    (omega arith) ne (nodes-block e s p ne ∙ at))

pub none_free : (e : Links) (s : List (Option Links)) → IsLinked e s → e.next ≡ list_end
    → count_by (λ free. free) (map is_some s) ≡ 0
none_free e s linked first =
    count_by-of_none (map is_some s) (λ k. marked s k ∙ not_free e s linked first k (get_or s k None) refl)

pub first_free : (e : Links) (s : List (Option Links)) → IsLinked e s → e.next ≢ list_end
    → get_or (map is_some s) e.next false ≡ true
first_free e s linked ne =
    let m = linked.ring.next list_end e (nodes-end e s list_end refl) in
    marked s e.next ∙ ap is_some (sym (nodes-block e s e.next ne) ∙ m.1)

-- Marks that are set from the last index down.

unfoldable pub filled : ℕ → ℕ → List Bool
filled k m = replicate k false ++ replicate m true

pub filled_in_use : (k m : ℕ) → get_or (filled (suc k) m) k false ≡ false
unfolding filled
filled_in_use zero m = refl
filled_in_use (suc k) m = filled_in_use k m

pub filled_more : (k m : ℕ) → set (filled (suc k) m) k true ≡ filled k (suc m)
unfolding filled
filled_more zero m = refl
filled_more (suc k) m = ap (λ xs. false ∷ xs) (filled_more k m)

pub filled_length : (k m : ℕ) → length (filled k m) ≡ k + m
unfolding filled
filled_length zero m = omega (arith, length-replicate m true)
filled_length (suc k) m = omega (arith, filled_length k m)

filled_none : (n : ℕ) → filled n 0 ≡ replicate n false
unfolding filled
filled_none zero = refl
filled_none (suc n) = ap (λ xs. false ∷ xs) (filled_none n)

pub filled-start : (n : ℕ) (xs : List Bool) → xs ≡ replicate n false → xs ≡ filled n (n - n)
filled-start n xs is = let e : n - n ≡ 0 = omega arith in is ∙ sym (filled_none n) ∙ ap (filled n) (sym e)

all_filled : (n : ℕ) → filled 0 n ≡ replicate n true
unfolding filled
all_filled n = refl

pub filled-end : (n k : ℕ) (xs : List Bool) → xs ≡ filled k (n - k) → k ≡ 0 → xs ≡ replicate n true
filled-end n k xs is done =
    let e : n - k ≡ n = omega (arith, done) in
    is ∙ (λ i. filled (done i) (e i)) ∙ all_filled n

-- One more mark is set.
pub filled-step : (n k : ℕ) (xs : List Bool) → 0 < k → k ≤ n → xs ≡ filled k (n - k) → (k - 1 < length xs)
    × (get_or xs (k - 1) false ≡ false) × (set xs (k - 1) true ≡ filled (k - 1) (n - (k - 1)))
filled-step n zero xs some le is = absurd (omega arith)
filled-step n (suc j) xs some le is =
    let e : suc j - 1 ≡ j = omega arith in
    let m : n - (suc j - 1) ≡ suc (n - suc j) = omega (arith, le) in (
      omega (arith, ap length is, filled_length (suc j) (n - suc j)),
      ap (λ ys. get_or ys (suc j - 1) false) is ∙ ap (λ i. get_or (filled (suc j) (n - suc j)) i false) e
          ∙ filled_in_use j (n - suc j),
      ap (λ ys. set ys (suc j - 1) true) is ∙ ap (λ i. set (filled (suc j) (n - suc j)) i true) e
          ∙ filled_more j (n - suc j) ∙ sym (λ i. filled (e i) (m i)),
    )
