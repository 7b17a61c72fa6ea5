-- Lemmas about what is preserved while blocks are returned to the arena.
use Rattle.std.proofs.Common.{◌≡◌, ◌≢◌, ℕ, zero, suc, ◌+◌, ◌<◌, ◌≤◌, ◌⊎◌, inl, inr, true, List, [], ◌∷◌, ◌++◌, length, refl, sym, ap, subst, ◌∙◌, arith}
use Rattle.std.proofs.Math.Bool.{or-false}
use Rattle.std.proofs.lemmas.Bool.{cases_eq}
use Rattle.std.proofs.lemmas.List.{append-nil}
use Rattle.std.proofs.lemmas.Bool.Decides.{nat_tests}
use Rattle.pmd_access.specs.NicDevice.DmaArena.Numbers.{Numbers, is_own, is_free, with_free}
use Rattle.pmd_access.specs.NicDevice.DmaArena.Whereabouts.{times_in_hand}
use Rattle.pmd_access.proofs.NicDevice.DmaArena.Arenas.{is_own-with_free, is_free-with_free_same}
use Rattle.pmd_access.proofs.NicDevice.DmaArena.Arenas.{is_free-with_free_other}
use Rattle.pmd_access.specs.Home.{AreOut, Bringing, BringsOne, Brings, BringsAll, StopsBringing}
use Rattle.pmd_driver.specs.Halted.{is_free_or_out}
use Rattle.pmd_access.proofs.Outside.{times-cons, times_first, times_rest, out_fewer, out_first, out_given}

-- If `AreOut` holds for the blocks still to be returned, it still holds after one of them was returned or lost.

one_out : (s t : Bringing) → BringsOne s t → AreOut s.arena s.way.lent → AreOut t.arena t.way.lent
one_out s t (n, is, inl brought) out =
    rw brought.arena (out_given s.arena t.way.lent n (subst (λ (xs : List ℕ). AreOut s.arena xs) is out))
one_out s t (n, is, inr missed) out =
    rw missed.arena (out_fewer s.arena s.way.lent t.way.lent out (λ k. omega (
      arith,
      times-cons n t.way.lent k,
      ap (λ (xs : List ℕ). times_in_hand xs k) is,
    )))

pub brings_out : (count : ℕ) (s t : Bringing) → Brings count s t → AreOut s.arena s.way.lent
    → AreOut t.arena t.way.lent
brings_out zero s t same out = subst (λ (b : Bringing). AreOut b.arena b.way.lent) (sym same) out
brings_out (suc count) s t (mid, before, one) out = one_out mid t one (brings_out count s mid before out)

-- Returning blocks doesn't change which numbers the arena owns.

one_own : (s t : Bringing) → BringsOne s t → (k : ℕ) → is_own t.arena k ≡ is_own s.arena k
one_own s t (n, is, inl brought) k = rw brought.arena (is_own-with_free s.arena n true k)
one_own s t (n, is, inr missed) k = rw missed.arena refl

pub brings_own : (count : ℕ) (s t : Bringing) → Brings count s t → (k : ℕ) → is_own t.arena k ≡ is_own s.arena k
brings_own zero s t same k = rw same refl
brings_own (suc count) s t (mid, before, one) k = one_own mid t one k ∙ brings_own count s mid before k

pub all_own : (s t : Bringing) → BringsAll s t → (k : ℕ) → is_own t.arena k ≡ is_own s.arena k
all_own s t (count, brings, none) k = brings_own count s t brings k

-- The number of lost blocks never falls. Together with the number of blocks still to be returned, it never grows.

one_few : (s t : Bringing) → BringsOne s t
    → (s.way.lost ≤ t.way.lost) × (t.way.lost + length t.way.lent ≤ s.way.lost + length s.way.lent)
one_few s t (n, is, inl brought) = (omega (arith, brought.lost), omega (arith, brought.lost, ap length is))
one_few s t (n, is, inr missed) = (omega (arith, missed.lost), omega (arith, missed.lost, ap length is))

pub brings_few : (count : ℕ) (s t : Bringing) → Brings count s t
    → (s.way.lost ≤ t.way.lost) × (t.way.lost + length t.way.lent ≤ s.way.lost + length s.way.lent)
brings_few zero s t same = rw same (omega arith, omega arith)
brings_few (suc count) s t (mid, before, one) =
    let first = brings_few count s mid before in
    let then = one_few mid t one in
    (omega (arith, first.0, then.0), omega (arith, first.1, then.1))

-- Returning a block to the arena doesn't change which blocks are free or still to be returned.

there_given : (a : Numbers) (xs : List ℕ) (n : ℕ) → AreOut a (n ∷ xs) → (k : ℕ) → (k ≡ n) ⊎ (k ≢ n)
    → is_free_or_out (with_free a n true) xs k ≡ is_free_or_out a (n ∷ xs) k
there_given a xs n out k (inl e) =
    let here = out_first a xs n out in
    let P : ℕ → Type 0 = λ x. is_free_or_out (with_free a n true) xs x ≡ is_free_or_out a (n ∷ xs) x in
    let after : is_free (with_free a n true) n ≡ true = is_free-with_free_same a n true here.0 in
    let counted : times_in_hand (n ∷ xs) n ≡ 1 + times_in_hand xs n = times_first xs n in
    subst P (sym e) (rw (after, here.1, counted) (grind (arith, nat_tests)))
there_given a xs n out k (inr ne) =
    let here = out_first a xs n out in
    rw (is_free-with_free_other a n true k here.0 ne, times_rest xs n k ne) refl

pub given_there : (a : Numbers) (xs : List ℕ) (n : ℕ) → AreOut a (n ∷ xs) → (k : ℕ)
    → is_free_or_out (with_free a n true) xs k ≡ is_free_or_out a (n ∷ xs) k
given_there a xs n out k = there_given a xs n out k (cases_eq k n)

one_there : (s t : Bringing) → BringsOne s t → AreOut s.arena s.way.lent → t.way.lost ≡ s.way.lost → (k : ℕ)
    → is_free_or_out t.arena t.way.lent k ≡ is_free_or_out s.arena s.way.lent k
one_there s t (n, is, inl brought) out none k =
    rw (brought.arena, is) (given_there s.arena t.way.lent n (subst (λ (xs : List ℕ). AreOut s.arena xs) is out) k)
one_there s t (n, is, inr missed) out none k = absurd (omega (arith, missed.lost, none))

pub brings_there : (count : ℕ) (s t : Bringing) → Brings count s t → AreOut s.arena s.way.lent
    → t.way.lost ≡ s.way.lost → (k : ℕ)
    → is_free_or_out t.arena t.way.lent k ≡ is_free_or_out s.arena s.way.lent k
brings_there zero s t same out none k =
    subst (λ (b : Bringing). is_free_or_out b.arena b.way.lent k ≡ is_free_or_out s.arena s.way.lent k) (sym same) refl
brings_there (suc count) s t (mid, before, one) out none k =
    let first = brings_few count s mid before in
    let then = one_few mid t one in
    let early : mid.way.lost ≡ s.way.lost = omega (arith, first.0, then.0, none) in
    let late : t.way.lost ≡ mid.way.lost = omega (arith, first.0, then.0, none) in
    one_there mid t one (brings_out count s mid before out) late k ∙ brings_there count s mid before out early k

-- `AreUnheld`: the properties of the blocks of a driver with closed rings. They still hold if returning the blocks
-- stops early.

abbrev pub AreUnheld : Bringing → Type 0
AreUnheld s = AreOut s.arena (s.way.lent ++ []) × (s.way.lost + length s.way.lent < 4294967296)

pub stopped_unheld : (s t : Bringing) → StopsBringing s t → AreUnheld s → AreUnheld t
stopped_unheld s t (count, mid, brings, adds, arena, way, waits) (out, few) =
    let was : AreOut s.arena s.way.lent = rw append-nil at out in
    let here : AreOut mid.arena mid.way.lent = brings_out count s mid brings was in
    let fewer = brings_few count s mid brings in
    (rw (arena, way, append-nil) here, rw way (omega (arith, fewer.1, few)))

pub all_fit : (s t : Bringing) → BringsAll s t → AreUnheld s → t.way.lost < 4294967296
all_fit s t (count, brings, none) (out, few) =
    let fewer = brings_few count s t brings in omega (arith, fewer.1, few)

-- If no block is lost, all blocks are free again.
pub all_free_again : (s t : Bringing) → BringsAll s t → AreOut s.arena (s.way.lent ++ []) → t.way.lost ≡ 0 → (k : ℕ)
    → is_free t.arena k ≡ is_free_or_out s.arena (s.way.lent ++ []) k
all_free_again s t (count, brings, gone) out none k =
    let was : AreOut s.arena s.way.lent = rw append-nil at out in
    let fewer = brings_few count s t brings in
    let same : t.way.lost ≡ s.way.lost = omega (arith, fewer.0, none) in
    let there : is_free_or_out t.arena [] k ≡ is_free_or_out s.arena s.way.lent k =
    subst (λ (xs : List ℕ). is_free_or_out t.arena xs k ≡ is_free_or_out s.arena s.way.lent k) gone
    (brings_there count s t brings was same k) in
    rw append-nil (sym (or-false (is_free t.arena k)) ∙ there)
