-- Lemmas about several blocks together: a packet's blocks that are returned to the arena, or blocks kept in hand.
use Rattle.std.proofs.Common.{◌≡◌, ℕ, zero, suc, ◌+◌, ◌<◌, ◌≤◌, ◌==◌, ◌&&◌, ◌||◌, nat_lt, not, Bool, true, false, List, [], ◌∷◌, ◌++◌, length, drop, get_or, refl, sym, ap, subst, ◌∙◌, arith}
use Rattle.std.specs.Prelude.{⊤}
use Rattle.std.specs.List.{list_any}
use Rattle.std.proofs.lemmas.Bool.Decides.{nat_tests}
use Rattle.pmd_access.specs.NicDevice.DmaArena.Block.{Block}
use Rattle.pmd_access.specs.NicDevice.DmaArena.Numbers.{Numbers, is_own, is_free, with_free}
use Rattle.pmd_access.specs.NicDevice.DmaArena.Whereabouts.{times_in_hand}
use Rattle.pmd_access.proofs.NicDevice.DmaArena.Arenas.{is_own-with_free}
use Rattle.pmd_access.specs.Bufs.{numbers_of, with_all_free}
use Rattle.pmd_access.specs.Home.{AreOut}
use Rattle.pmd_access.proofs.Outside.{times-cons, times-append, out_fewer, out_first, out_given}
use Rattle.pmd_access.proofs.Rings.{among_times, times_among}
use Rattle.pmd_tx.specs.Sends.{are_out}
use Rattle.pmd_tx.proofs.Numbering.{numbers-left}
use Rattle.pmd_driver.specs.Blocks.{KeepsEach}
use Rattle.pmd_driver.proofs.Blocks.{out_joined}
use Rattle.pmd_driver.proofs.Whole.{keeps_then, one_given}

-- Returning two lists of blocks is the same as returning one list after the other, and keeps the count of each block.

pub free_both : (a : Numbers) (xs ys : List ℕ) → with_all_free a (xs ++ ys) ≡ with_all_free (with_all_free a xs) ys
free_both a [] ys = refl
free_both a (n ∷ xs) ys = free_both (with_free a n true) xs ys

pub all_given : (a : Numbers) (xs rest : List ℕ) → AreOut a (xs ++ rest)
    → KeepsEach a (xs ++ rest) (with_all_free a xs) rest
all_given a [] rest out = record { owns = λ n. refl; each = λ n. refl }
all_given a (n ∷ xs) rest out =
    let here = out_first a (xs ++ rest) n out in
    keeps_then a (with_free a n true) (with_all_free a (n ∷ xs)) (n ∷ (xs ++ rest)) (xs ++ rest) rest
    (one_given a (xs ++ rest) n here.0 here.1)
    (all_given (with_free a n true) xs rest (out_given a (xs ++ rest) n out))

pub out_all_given : (a : Numbers) (xs rest : List ℕ) → AreOut a (xs ++ rest) → AreOut (with_all_free a xs) rest
out_all_given a [] rest out = out
out_all_given a (n ∷ xs) rest out = out_all_given (with_free a n true) xs rest (out_given a (xs ++ rest) n out)

pub all_own_same : (a : Numbers) (xs : List ℕ) (n : ℕ) → is_own (with_all_free a xs) n ≡ is_own a n
all_own_same a [] n = refl
all_own_same a (k ∷ xs) n = all_own_same (with_free a k true) xs n ∙ is_own-with_free a k true n

-- A block that `list_any` doesn't find in a list occurs 0 times.

none_at : (xs : List ℕ) (n t : ℕ) → times_in_hand xs n ≡ t → list_any (λ b. n == b) xs ≡ false → t ≡ 0
none_at xs n zero is none = refl
none_at xs n (suc t) is none =
    let some : list_any (λ b. n == b) xs ≡ true = among_times xs n (omega (arith, is)) in
    absurd (let e : true ≡ false = sym some ∙ none in cc)

pub none_among : (xs : List ℕ) (n : ℕ) → list_any (λ b. n == b) xs ≡ false → times_in_hand xs n ≡ 0
none_among xs n none = none_at xs n (times_in_hand xs n) refl none

pub neither : (a b : Bool) → (a || b) ≡ false → (a ≡ false) × (b ≡ false)
neither true b is = cc
neither false b is = (refl, is)

-- No block of one list is in the other.
abbrev pub AreAway : List ℕ → List ℕ → Type 0
AreAway xs [] = ⊤
AreAway xs (n ∷ ns) = (times_in_hand xs n ≡ 0) × AreAway xs ns

pub away_by : (f : ℕ → Bool) (xs ns : List ℕ) → ((n : ℕ) → f n ≡ false → times_in_hand xs n ≡ 0)
    → list_any f ns ≡ false → AreAway xs ns
away_by f xs [] none is = tt
away_by f xs (n ∷ ns) none is =
    let both = neither (f n) (list_any f ns) is in
    (none n both.0, away_by f xs ns none both.1)

pub away_both : (xs ys ns : List ℕ) → AreAway xs ns → AreAway ys ns → AreAway (xs ++ ys) ns
away_both xs ys [] one two = tt
away_both xs ys (n ∷ ns) one two =
    (omega (arith, times-append xs ys n, one.0, two.0), away_both xs ys ns one.1 two.1)

pub uncounted : (t : ℕ) → nat_lt 0 t ≡ false → t ≡ 0
uncounted t is = grind (arith, nat_tests, is)

-- Different blocks that the arena owns and that are neither free nor in use can be added to those in use.

four : (a b c d : Bool) → (a && not b && not c && d) ≡ true → (a ≡ true) × (b ≡ false) × (c ≡ false) × (d ≡ true)
four true false false true is = (refl, refl, refl, refl)
four true false false false is = cc
four true false true d is = cc
four true true c d is = cc
four false b c d is = cc

pub all_joined : (a : Numbers) (xs ns : List ℕ) → are_out a ns ≡ true → AreAway xs ns → AreOut a xs
    → AreOut a (ns ++ xs)
all_joined a xs [] are away out = out
all_joined a xs (n ∷ ns) are away out =
    let (own, here, alone, rest) = four (is_own a n) (is_free a n) (list_any (λ b. n == b) ns) (are_out a ns) are in
    out_joined a (ns ++ xs) n own here
    (omega (arith, times-append ns xs n, none_among ns n alone, away.0)) (all_joined a xs ns rest away.1 out)

-- Conversely, if `AreOut` holds for these blocks and others together, these blocks pass the test `are_out`.

pub out_are : (a : Numbers) (ns xs : List ℕ) → AreOut a (ns ++ xs) → are_out a ns ≡ true
out_are a [] xs out = refl
out_are a (n ∷ ns) xs out =
    let here = out_first a (ns ++ xs) n out in
    let alone : list_any (λ b. n == b) ns ≡ false = times_among ns n (omega (arith, here.2, times-append ns xs n)) in
    let rest : are_out a ns ≡ true =
    out_are a ns xs (out_fewer a (n ∷ (ns ++ xs)) (ns ++ xs) out (λ k. omega (arith, times-cons n (ns ++ xs) k))) in
    rw (here.0, here.1, alone, rest) refl

pub out_away : (a : Numbers) (ns xs : List ℕ) → AreOut a (ns ++ xs) → AreAway xs ns
out_away a [] xs out = tt
out_away a (n ∷ ns) xs out =
    let here = out_first a (ns ++ xs) n out in (
      omega (arith, here.2, times-append ns xs n),
      out_away a ns xs
          (out_fewer a (n ∷ (ns ++ xs)) (ns ++ xs) out (λ k. omega (arith, times-cons n (ns ++ xs) k))),
    )

pub none_by : (f : ℕ → Bool) (xs ns : List ℕ) → ((n : ℕ) → times_in_hand xs n ≡ 0 → f n ≡ false)
    → AreAway xs ns → list_any f ns ≡ false
none_by f xs [] none away = refl
none_by f xs (n ∷ ns) none away = rw (none n away.0, none_by f xs ns none away.1) refl

pub away_part : (xs ys ns : List ℕ) → ((n : ℕ) → times_in_hand ys n ≤ times_in_hand xs n) → AreAway xs ns
    → AreAway ys ns
away_part xs ys [] fewer away = tt
away_part xs ys (n ∷ ns) fewer away =
    (omega (arith, fewer n, away.0), away_part xs ys ns fewer away.1)

-- If one of a packet's blocks passes a test, `list_any` finds it.

any_more : (x y : Bool) → y ≡ true → (x || y) ≡ true
any_more true y is = refl
any_more false y is = is

pub found : (f : ℕ → Bool) (bs : List Block) (k : ℕ) (b : Block) → k < length bs → b ≡ get_or bs k b
    → f b.number ≡ true → list_any f (numbers_of bs) ≡ true
found f [] k b below is meets = absurd (omega (arith, below))
found f (c ∷ bs) zero b below is meets =
    let here : f c.number ≡ true = subst (λ (x : Block). f x.number ≡ true) is meets in rw here refl
found f (c ∷ bs) (suc k) b below is meets =
    any_more (f c.number) (list_any f (numbers_of bs)) (found f bs k b (omega (arith, below)) is meets)

pub counts : (t : ℕ) → 0 < t → nat_lt 0 t ≡ true
counts t some = grind (arith, nat_tests, some)

pub missed : (f : ℕ → Bool) (bs : List Block) (k : ℕ) (b : Block) → k < length bs → b ≡ get_or bs k b
    → f b.number ≡ false → list_any f (numbers_of bs) ≡ list_any f (drop k (numbers_of bs))
    → list_any f (numbers_of bs) ≡ list_any f (drop (k + 1) (numbers_of bs))
missed f bs k b below is away so =
    so ∙ ap (list_any f) (numbers-left bs k b below is)
    ∙ ap (λ (t : Bool). t || list_any f (drop (k + 1) (numbers_of bs))) away

pub counts_none : (t : ℕ) → (0 < t → false ≡ true) → nat_lt 0 t ≡ false
counts_none zero none = refl
counts_none (suc t) none = absurd (let e : false ≡ true = none (omega arith) in cc)
