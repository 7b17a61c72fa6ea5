-- Lemmas: when a block moves, it stays in exactly one place.
use Rattle.std.proofs.Common.{◌≡◌, ◌≢◌, ℕ, ◌+◌, ◌⊎◌, inl, inr, true, false, List, [], ◌∷◌, refl, sym, subst, ◌∙◌, arith}
use Rattle.std.specs.FinMap as map
use Rattle.std.specs.Ordering.{nat_cmp}
use Rattle.std.proofs.lemmas.Bool.{cases_eq}
use Rattle.dma_arena.specs.Memory.{Memory, has_block}
use Rattle.dma_arena.specs.Numbers.{Numbers, is_own, is_free, all_free, with_free}
use Rattle.dma_arena.specs.Whereabouts.{times_in_hand, places_of, EachOnce, MovesKeepEachOnce}
use Rattle.dma_arena.proofs.Arenas.{is_own-of_free, is_own-with_free, is_free-with_free_same, is_free-with_free_other, is_free-all_free}
use Rattle.dma_arena.proofs.Counts.{counted, times_first, times_rest, has_block-insert_same, has_block-insert_other, has_block-remove_same, has_block-remove_other, reported, alone, freed, sole}
use Rattle.dma_arena.proofs.Cuts.{split_case}

-- Taking, giving, lending and taking back a block.

taken_here : (a : Numbers) (hand : List ℕ) (m : Memory) (n : ℕ) → is_free a n ≡ true → EachOnce a hand m
    → places_of (with_free a n false) (n ∷ hand) m n ≡ 1
taken_here a hand m n free once =
    let own : is_own a n ≡ true = is_own-of_free a n free in
    let was : counted true (times_in_hand hand n) (has_block m n) ≡ 1 = rw free at (once n own) in
    reported (is_free (with_free a n false) n) false (times_in_hand (n ∷ hand) n) (1 + times_in_hand hand n)
    (has_block m n)
    (has_block m n)
    (is_free-with_free_same a n false own) (times_first hand n) refl (omega (arith, was))

taken_case : (a : Numbers) (hand : List ℕ) (m : Memory) (n : ℕ) → is_free a n ≡ true → EachOnce a hand m → (k : ℕ)
    → (k ≡ n) ⊎ (k ≢ n) → is_own a k ≡ true → places_of (with_free a n false) (n ∷ hand) m k ≡ 1
taken_case a hand m n free once k (inl e) own =
    let P : ℕ → Type 0 =
    λ x. places_of (with_free a n false) (n ∷ hand) m x ≡ 1 in subst P (sym e) (taken_here a hand m n free once)
taken_case a hand m n free once k (inr ne) own =
    reported (is_free (with_free a n false) k) (is_free a k) (times_in_hand (n ∷ hand) k) (times_in_hand hand k)
    (has_block m k) (has_block m k)
    (is_free-with_free_other a n false k (is_own-of_free a n free) ne) (times_rest hand n k ne) refl (once k own)

given_here : (a : Numbers) (hand : List ℕ) (m : Memory) (n : ℕ) → is_own a n ≡ true → EachOnce a (n ∷ hand) m
    → places_of (with_free a n true) hand m n ≡ 1
given_here a hand m n own once =
    let was : counted (is_free a n) (1 + times_in_hand hand n) (has_block m n) ≡ 1 =
    reported (is_free a n) (is_free a n) (1 + times_in_hand hand n) (times_in_hand (n ∷ hand) n) (has_block m n)
    (has_block m n) refl (sym (times_first hand n)) refl (once n own) in
    reported (is_free (with_free a n true) n) true (times_in_hand hand n) (times_in_hand hand n) (has_block m n)
    (has_block m n)
    (is_free-with_free_same a n true own) refl refl (freed (is_free a n) (has_block m n) (times_in_hand hand n) was)

given_case : (a : Numbers) (hand : List ℕ) (m : Memory) (n : ℕ) → is_own a n ≡ true → EachOnce a (n ∷ hand) m → (k : ℕ)
    → (k ≡ n) ⊎ (k ≢ n) → is_own a k ≡ true → places_of (with_free a n true) hand m k ≡ 1
given_case a hand m n mine once k (inl e) own = rw e (given_here a hand m n mine once)
given_case a hand m n mine once k (inr ne) own =
    reported (is_free (with_free a n true) k) (is_free a k) (times_in_hand hand k) (times_in_hand (n ∷ hand) k)
    (has_block m k) (has_block m k)
    (is_free-with_free_other a n true k mine ne) (sym (times_rest hand n k ne)) refl (once k own)

lent_here : (a : Numbers) (hand : List ℕ) (m : Memory) (n : ℕ) (xs : List ℕ) → is_own a n ≡ true
    → EachOnce a (n ∷ hand) m → places_of a hand (map.insert m n xs) n ≡ 1
lent_here a hand m n xs own once =
    let was : counted (is_free a n) (1 + times_in_hand hand n) (has_block m n) ≡ 1 =
    reported (is_free a n) (is_free a n) (1 + times_in_hand hand n) (times_in_hand (n ∷ hand) n) (has_block m n)
    (has_block m n) refl (sym (times_first hand n)) refl (once n own) in
    let none = alone (is_free a n) (has_block m n) (times_in_hand hand n) was in
    reported (is_free a n) false (times_in_hand hand n) (times_in_hand hand n)
    (has_block (map.insert m n xs) n) true none.0 refl (has_block-insert_same m n xs)
    (sole (is_free a n) (has_block m n) (times_in_hand hand n) was)

lent_case : (a : Numbers) (hand : List ℕ) (m : Memory) (n : ℕ) (xs : List ℕ) → has_block m n ≡ false
    → EachOnce a (n ∷ hand) m → (k : ℕ) → (k ≡ n) ⊎ (k ≢ n) → is_own a k ≡ true
    → places_of a hand (map.insert m n xs) k ≡ 1
lent_case a hand m n xs absent once k (inl e) own = rw e (lent_here a hand m n xs (rw (← e) own) once)
lent_case a hand m n xs absent once k (inr ne) own =
    reported (is_free a k) (is_free a k) (times_in_hand hand k) (times_in_hand (n ∷ hand) k)
    (has_block (map.insert m n xs) k) (has_block m k) refl (sym (times_rest hand n k ne))
    (has_block-insert_other m n xs k ne) (once k own)

back_here : (a : Numbers) (hand : List ℕ) (m : Memory) (n : ℕ) → is_own a n ≡ true → has_block m n ≡ true
    → EachOnce a hand m → places_of a (n ∷ hand) (map.remove m n) n ≡ 1
back_here a hand m n own there once =
    let was : counted (is_free a n) (times_in_hand hand n) true ≡ 1 =
    reported (is_free a n) (is_free a n) (times_in_hand hand n) (times_in_hand hand n) true (has_block m n) refl refl
    (sym there) (once n own) in
    reported (is_free a n) (is_free a n) (times_in_hand (n ∷ hand) n) (1 + times_in_hand hand n)
    (has_block (map.remove m n) n) false refl (times_first hand n) (has_block-remove_same m n) (omega (arith, was))

back_case : (a : Numbers) (hand : List ℕ) (m : Memory) (n : ℕ) → has_block m n ≡ true → EachOnce a hand m → (k : ℕ)
    → (k ≡ n) ⊎ (k ≢ n) → is_own a k ≡ true → places_of a (n ∷ hand) (map.remove m n) k ≡ 1
back_case a hand m n there once k (inl e) own =
    let P : ℕ → Type 0 =
    λ x. places_of a (n ∷ hand) (map.remove m n) x ≡ 1 in
    subst P (sym e) (back_here a hand m n (rw (← e) own) there once)
back_case a hand m n there once k (inr ne) own =
    reported (is_free a k) (is_free a k) (times_in_hand (n ∷ hand) k) (times_in_hand hand k)
    (has_block (map.remove m n) k)
    (has_block m k) refl (times_rest hand n k ne) (has_block-remove_other m n k ne) (once k own)

foreign_case : (a : Numbers) (hand : List ℕ) (m : Memory) (n : ℕ) → is_own a n ≡ false → EachOnce a hand m → (k : ℕ)
    → (k ≡ n) ⊎ (k ≢ n) → is_own a k ≡ true → places_of a (n ∷ hand) m k ≡ 1
foreign_case a hand m n other once k (inl e) own = let h : true ≡ false = sym (rw (← e) own) ∙ other in cc
foreign_case a hand m n other once k (inr ne) own =
    reported (is_free a k) (is_free a k) (times_in_hand (n ∷ hand) k) (times_in_hand hand k) (has_block m k)
    (has_block m k) refl (times_rest hand n k ne) refl (once k own)

welcome_in : (a : Numbers) (hand : List ℕ) (m : Memory) (n : ℕ) → is_own a n ≡ true → EachOnce a (n ∷ hand) m
    → (is_free a n ≡ false) × (has_block m n ≡ false)
welcome_in a hand m n own once =
    alone (is_free a n) (has_block m n) (times_in_hand hand n)
    (reported (is_free a n) (is_free a n) (1 + times_in_hand hand n) (times_in_hand (n ∷ hand) n) (has_block m n)
    (has_block m n) refl (sym (times_first hand n)) refl (once n own))

made_case : (first count : ℕ) → EachOnce (all_free first count) [] map.empty
made_case first count k own = rw (is_free-all_free first count k, own, map.get-empty {X = List ℕ} nat_cmp k) refl

given_all : (a : Numbers) (hand : List ℕ) (m : Memory) (n : ℕ)
    → is_own a n ≡ true → EachOnce a (n ∷ hand) m → EachOnce (with_free a n true) hand m
given_all a hand m n mine once k own =
    given_case a hand m n mine once k (cases_eq k n) (sym (is_own-with_free a n true k) ∙ own)

-- A foreign block is returned to its own arena.
left_case : (a : Numbers) (hand : List ℕ) (m : Memory) (n : ℕ)
    → is_own a n ≡ false → EachOnce a (n ∷ hand) m → EachOnce a hand m
left_case a hand m n other once k own =
    let ne : k ≢ n = λ e. let h : true ≡ false = sym own ∙ rw e other in cc in
    reported (is_free a k) (is_free a k) (times_in_hand hand k) (times_in_hand (n ∷ hand) k) (has_block m k)
    (has_block m k)
    refl (sym (times_rest hand n k ne)) refl (once k own)

pub moves_keep_each_once : MovesKeepEachOnce
moves_keep_each_once = record {
  made = made_case;
  taken = λ a hand m n free once k own. taken_case a hand m n free once k (cases_eq k n)
      (sym (is_own-with_free a n false k) ∙ own);
  given = given_all;
  lent = λ a hand m n xs absent once k own. lent_case a hand m n xs absent once k (cases_eq k n) own;
  back = λ a hand m n there once k own. back_case a hand m n there once k (cases_eq k n) own;
  foreign = λ a hand m n other once k own. foreign_case a hand m n other once k (cases_eq k n) own;
  home = λ a home hand m n other mine away once.
      ((welcome_in home hand m n mine once).0, left_case a hand m n other away, given_all home hand m n mine once);
  split = split_case;
  order = λ a hand other m same once k own.
      reported (is_free a k) (is_free a k) (times_in_hand other k) (times_in_hand hand k) (has_block m k)
      (has_block m k)
      refl (sym (same k)) refl (once k own);
  welcome = welcome_in;
}
