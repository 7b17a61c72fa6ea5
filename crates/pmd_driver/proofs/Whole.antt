-- Lemmas: each block is free or out as often as before.
use Rattle.std.proofs.Common.{◌≡◌, ◌≢◌, ℕ, ◌+◌, ◌≤◌, ◌⊎◌, inl, inr, Bool, true, false, cond, List, [], ◌∷◌, ◌++◌, refl, sym, subst, ◌∙◌, arith}
use Rattle.std.proofs.lemmas.Bool.{cases_eq}
use Rattle.pmd_access.specs.NicDevice.DmaArena.Numbers.{Numbers, is_own, is_free, with_free}
use Rattle.pmd_access.specs.NicDevice.DmaArena.Whereabouts.{times_in_hand}
use Rattle.pmd_access.proofs.NicDevice.DmaArena.Arenas.{is_own-of_free, is_own-with_free, is_free-with_free_same}
use Rattle.pmd_access.proofs.NicDevice.DmaArena.Arenas.{is_free-with_free_other}
use Rattle.pmd_access.specs.Home.{AreOut, IsDrawn, Exchanges}
use Rattle.pmd_access.proofs.Outside.{times_first, times_rest, times-cons, times-append}
use Rattle.pmd_driver.specs.Halted.{Halted, all_out}
use Rattle.pmd_driver.specs.Blocks.{KeepsEach, HasAll}

pub keeps_then : (a b d : Numbers) (x y z : List ℕ) → KeepsEach a x b y → KeepsEach b y d z → KeepsEach a x d z
keeps_then a b d x y z first then = record {
  owns = λ n. then.owns n ∙ first.owns n;
  each = λ n. then.each n ∙ first.each n;
}

-- A list of blocks in use may be replaced by a list in which each block occurs as often.
pub keeps_counted : (a b : Numbers) (x y z : List ℕ) → ((n : ℕ) → times_in_hand z n ≡ times_in_hand y n)
    → KeepsEach a x b y → KeepsEach a x b z
keeps_counted a b x y z same keeps = record {
  owns = keeps.owns;
  each = λ n. omega (arith, same n, keeps.each n);
}

-- Taking one free block from the arena keeps the count of this block and of each other block.

drawn_at : (a : Numbers) (xs : List ℕ) (n : ℕ) → is_free a n ≡ true → (k : ℕ) → (k ≡ n) ⊎ (k ≢ n)
    → cond (is_free (with_free a n false) k) 1 0 + times_in_hand (n ∷ xs) k
    ≡ cond (is_free a k) 1 0 + times_in_hand xs k
drawn_at a xs n free k (inl e) =
    let P : ℕ → Type 0 = λ x. cond (is_free (with_free a n false) x) 1 0 + times_in_hand (n ∷ xs) x
    ≡ cond (is_free a x) 1 0 + times_in_hand xs x in
    let own : is_own a n ≡ true = is_own-of_free a n free in
    subst P (sym e) (rw (is_free-with_free_same a n false own, free, times_first xs n) (omega arith))
drawn_at a xs n free k (inr ne) =
    rw (is_free-with_free_other a n false k (is_own-of_free a n free) ne, times_rest xs n k ne) refl

pub one_drawn : (a : Numbers) (xs : List ℕ) (n : ℕ) → is_free a n ≡ true
    → KeepsEach a xs (with_free a n false) (n ∷ xs)
one_drawn a xs n free = record {
  owns = is_own-with_free a n false;
  each = λ k. drawn_at a xs n free k (cases_eq k n);
}

given_at : (a : Numbers) (xs : List ℕ) (n : ℕ) → is_own a n ≡ true → is_free a n ≡ false → (k : ℕ)
    → (k ≡ n) ⊎ (k ≢ n)
    → cond (is_free (with_free a n true) k) 1 0 + times_in_hand xs k
    ≡ cond (is_free a k) 1 0 + times_in_hand (n ∷ xs) k
given_at a xs n own away k (inl e) =
    let P : ℕ → Type 0 = λ x. cond (is_free (with_free a n true) x) 1 0 + times_in_hand xs x
    ≡ cond (is_free a x) 1 0 + times_in_hand (n ∷ xs) x in
    subst P (sym e) (rw (is_free-with_free_same a n true own, away, times_first xs n) (omega arith))
given_at a xs n own away k (inr ne) = rw (is_free-with_free_other a n true k own ne, times_rest xs n k ne) refl

pub one_given : (a : Numbers) (xs : List ℕ) (n : ℕ) → is_own a n ≡ true → is_free a n ≡ false
    → KeepsEach a (n ∷ xs) (with_free a n true) xs
one_given a xs n own away = record {
  owns = is_own-with_free a n true;
  each = λ k. given_at a xs n own away k (cases_eq k n);
}

-- Taking several free blocks from the arena keeps the count of each block.

pub all_drawn : (a : Numbers) (drawn : List ℕ) (b : Numbers) (xs : List ℕ) → IsDrawn a drawn b
    → KeepsEach a xs b (drawn ++ xs)
all_drawn a [] b xs is = rw is (record { owns = λ n. refl; each = λ n. refl })
all_drawn a (n ∷ ns) b xs (free, is) =
    keeps_counted a b xs (ns ++ n ∷ xs) (n ∷ (ns ++ xs))
    (λ k. omega (
      arith,
      times-cons n (ns ++ xs) k,
      times-append ns xs k,
      times-append ns (n ∷ xs) k,
      times-cons n xs k,
    ))
    (keeps_then a (with_free a n false) b xs (n ∷ xs) (ns ++ n ∷ xs) (one_drawn a xs n free)
    (all_drawn (with_free a n false) ns b (n ∷ xs) is))

pub all_exchanged : (a : Numbers) (out : List ℕ) (b : Numbers) (new : List ℕ) → Exchanges a out b new
    → KeepsEach a out b new
all_exchanged a out b new (drawn, is, same) =
    keeps_counted a b out (drawn ++ out) new same (all_drawn a drawn b out is)

-- The count of each block is also kept together with other blocks that stay in use.
pub keeps_beside : (a b : Numbers) (x y others : List ℕ) → KeepsEach a x b y
    → KeepsEach a (x ++ others) b (y ++ others)
keeps_beside a b x y others keeps = record {
  owns = keeps.owns;
  each = λ n. omega (arith, keeps.each n, times-append x others n, times-append y others n);
}

-- If a driver has all blocks of an arena, `AreOut` holds for the blocks that it has in use or in hand.

owned : (f g o : Bool) (t : ℕ) → cond f 1 0 + t ≡ cond g 1 0 → (g ≡ true → o ≡ true) → cond f 1 0 + t ≤ cond o 1 0
owned f true o t same own = rw (own refl) (omega (arith, same))
owned f false o t same own = omega (arith, same)

pub has_out : (a : Numbers) (h : Halted) (hand : List ℕ) → HasAll a h hand → AreOut h.arena (all_out h ++ hand)
has_out a h hand has n =
    owned (is_free h.arena n) (is_free a n) (is_own h.arena n) (times_in_hand (all_out h ++ hand) n)
    (omega (arith, has.each n)) (λ free. has.owns n ∙ is_own-of_free a n free)
