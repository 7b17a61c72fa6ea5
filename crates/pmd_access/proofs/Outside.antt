-- Lemmas about `AreOut`. It holds for a list of blocks that the arena owns, none of which is free or in the list twice.
use Rattle.std.proofs.Common.{◌≡◌, ◌≢◌, ℕ, zero, suc, ◌+◌, ◌<◌, ◌≤◌, ◌⊎◌, inl, inr, Bool, true, false, cond, List, [], ◌∷◌, ◌++◌, length, get_or, eqb, refl, sym, subst, ◌∙◌, arith}
use Rattle.std.proofs.lemmas.Bool.{cases_eq}
use Rattle.std.proofs.lemmas.Bool.Decides.{nat_tests}
use Rattle.std.proofs.lemmas.List.Sums.{sum_by-cons, sum_by-append}
use Rattle.device_lock.specs.NicDevice.DmaArena.Numbers.{Numbers, is_own, is_free, with_free}
use Rattle.device_lock.specs.NicDevice.DmaArena.Whereabouts.{times_in_hand}
use Rattle.device_lock.proofs.NicDevice.DmaArena.Arenas.{is_own-of_free, is_own-with_free, is_free-with_free_same, is_free-with_free_other}
use Rattle.pmd_access.specs.Home.{AreOut, IsDrawn, Exchanges}

-- How often a number occurs in a list, compared with its first element.

same_number : (n : ℕ) → eqb n n ≡ true
same_number n = grind (arith, nat_tests)

other_number : (n k : ℕ) → k ≢ n → eqb n k ≡ false
other_number n k ne = grind (arith, nat_tests)

pub times_first : (out : List ℕ) (n : ℕ) → times_in_hand (n ∷ out) n ≡ 1 + times_in_hand out n
times_first out n = sum_by-cons (λ (x : ℕ). cond (eqb x n) 1 0) n out ∙ rw (same_number n) refl

pub times_rest : (out : List ℕ) (n k : ℕ) → k ≢ n → times_in_hand (n ∷ out) k ≡ times_in_hand out k
times_rest out n k ne = sum_by-cons (λ (x : ℕ). cond (eqb x k) 1 0) n out ∙ rw (other_number n k ne) (omega arith)

pub times-cons : (n : ℕ) (out : List ℕ) (k : ℕ)
    → times_in_hand (n ∷ out) k ≡ times_in_hand (n ∷ []) k + times_in_hand out k
times-cons n out k = sum_by-append (λ (x : ℕ). cond (eqb x k) 1 0) (n ∷ []) out

pub times-append : (xs ys : List ℕ) (k : ℕ) → times_in_hand (xs ++ ys) k ≡ times_in_hand xs k + times_in_hand ys k
times-append xs ys k = sum_by-append (λ (x : ℕ). cond (eqb x k) 1 0) xs ys

-- A list contains the number at each of its indexes.
pub times_at : (xs : List ℕ) (i d : ℕ) → i < length xs → 0 < times_in_hand xs (get_or xs i d)
times_at [] i d below = absurd (omega arith)
times_at (x ∷ xs) zero d below = omega (arith, times_first xs x)
times_at (x ∷ xs) (suc i) d below =
    let rest : 0 < times_in_hand xs (get_or xs i d) = times_at xs i d (omega arith) in
    omega (arith, times-cons x xs (get_or xs i d), rest)

-- If `AreOut` holds for a list, it holds for every list in which no number occurs more often.

pub out_fewer : (a : Numbers) (xs ys : List ℕ) → AreOut a xs → ((k : ℕ) → times_in_hand ys k ≤ times_in_hand xs k)
    → AreOut a ys
out_fewer a xs ys out fewer k = omega (arith, out k, fewer k)

-- If a free block is taken from the arena, it can be added to the list.

drawn_here : (a : Numbers) (xs : List ℕ) (n : ℕ) → AreOut a xs → is_free a n ≡ true
    → cond (is_free (with_free a n false) n) 1 0 + times_in_hand (n ∷ xs) n ≤ cond (is_own (with_free a n false) n) 1 0
drawn_here a xs n out free =
    let own : is_own a n ≡ true = is_own-of_free a n free in
    let was : 1 + times_in_hand xs n ≤ 1 = rw (free, own) at (out n) in
    rw (is_own-with_free a n false n, is_free-with_free_same a n false own, own, times_first xs n) (omega (arith, was))

drawn_at : (a : Numbers) (xs : List ℕ) (n : ℕ) → AreOut a xs → is_free a n ≡ true → (k : ℕ) → (k ≡ n) ⊎ (k ≢ n)
    → cond (is_free (with_free a n false) k) 1 0 + times_in_hand (n ∷ xs) k ≤ cond (is_own (with_free a n false) k) 1 0
drawn_at a xs n out free k (inl e) =
    let P : ℕ → Type 0 = λ x. cond (is_free (with_free a n false) x) 1 0 + times_in_hand (n ∷ xs) x
    ≤ cond (is_own (with_free a n false) x) 1 0 in
    subst P (sym e) (drawn_here a xs n out free)
drawn_at a xs n out free k (inr ne) =
    let own : is_own a n ≡ true = is_own-of_free a n free in
    rw (is_own-with_free a n false k, is_free-with_free_other a n false k own ne, times_rest xs n k ne) (out k)

pub out_drawn : (a : Numbers) (xs : List ℕ) (n : ℕ) → AreOut a xs → is_free a n ≡ true
    → AreOut (with_free a n false) (n ∷ xs)
out_drawn a xs n out free k = drawn_at a xs n out free k (cases_eq k n)

-- A free number isn't in the list.
pub out_free : (a : Numbers) (xs : List ℕ) (n : ℕ) → AreOut a xs → is_free a n ≡ true → times_in_hand xs n ≡ 0
out_free a xs n out free =
    let own : is_own a n ≡ true = is_own-of_free a n free in
    let was : 1 + times_in_hand xs n ≤ 1 = rw (free, own) at (out n) in
    omega (arith, was)

-- A block in the list is owned by the arena, isn't free, and is in the list only once.

bounded : (f o : Bool) (t : ℕ) → cond f 1 0 + (1 + t) ≤ cond o 1 0 → (o ≡ true) × (f ≡ false) × (t ≡ 0)
bounded true true t le = absurd (omega arith)
bounded true false t le = absurd (omega arith)
bounded false true t le = (refl, refl, omega arith)
bounded false false t le = absurd (omega arith)

pub out_first : (a : Numbers) (xs : List ℕ) (n : ℕ) → AreOut a (n ∷ xs)
    → (is_own a n ≡ true) × (is_free a n ≡ false) × (times_in_hand xs n ≡ 0)
out_first a xs n out = bounded (is_free a n) (is_own a n) (times_in_hand xs n) (rw (times_first xs n) at (out n))

given_here : (a : Numbers) (xs : List ℕ) (n : ℕ) → AreOut a (n ∷ xs)
    → cond (is_free (with_free a n true) n) 1 0 + times_in_hand xs n ≤ cond (is_own (with_free a n true) n) 1 0
given_here a xs n out =
    let here = out_first a xs n out in
    rw (is_own-with_free a n true n, is_free-with_free_same a n true here.0, here.0, here.2) (omega arith)

given_at : (a : Numbers) (xs : List ℕ) (n : ℕ) → AreOut a (n ∷ xs) → (k : ℕ) → (k ≡ n) ⊎ (k ≢ n)
    → cond (is_free (with_free a n true) k) 1 0 + times_in_hand xs k ≤ cond (is_own (with_free a n true) k) 1 0
given_at a xs n out k (inl e) =
    let P : ℕ → Type 0 = λ x. cond (is_free (with_free a n true) x) 1 0 + times_in_hand xs x
    ≤ cond (is_own (with_free a n true) x) 1 0 in
    subst P (sym e) (given_here a xs n out)
given_at a xs n out k (inr ne) =
    let here = out_first a xs n out in
    rw (is_own-with_free a n true k, is_free-with_free_other a n true k here.0 ne)
    (rw (times_rest xs n k ne) at (out k))

-- If the first block in the list is returned to the arena, `AreOut` holds for the others.
pub out_given : (a : Numbers) (xs : List ℕ) (n : ℕ) → AreOut a (n ∷ xs) → AreOut (with_free a n true) xs
out_given a xs n out k = given_at a xs n out k (cases_eq k n)

-- If several free blocks are taken from the arena, they can be added to the list.

pub all_drawn : (a : Numbers) (drawn : List ℕ) (b : Numbers) (xs ys : List ℕ) → IsDrawn a drawn b → AreOut a xs
    → ((k : ℕ) → times_in_hand ys k ≤ times_in_hand drawn k + times_in_hand xs k) → AreOut b ys
all_drawn a [] b xs ys is out few = rw is (out_fewer a xs ys out (λ k. omega (arith, few k)))
all_drawn a (n ∷ ns) b xs ys (free, is) out few =
    all_drawn (with_free a n false) ns b (n ∷ xs) ys is (out_drawn a xs n out free)
    (λ k. omega (arith, few k, times-cons n ns k, times-cons n xs k))

-- If some of the blocks in the list are exchanged with the arena, `AreOut` holds for the new blocks and the others.
pub out_exchanged : (a : Numbers) (out : List ℕ) (b : Numbers) (new others : List ℕ) → AreOut a (out ++ others)
    → Exchanges a out b new → AreOut b (new ++ others)
out_exchanged a out b new others are (drawn, is, same) =
    all_drawn a drawn b (out ++ others) (new ++ others) is are
    (λ k. omega (arith, same k, times-append new others k, times-append drawn out k, times-append out others k))
