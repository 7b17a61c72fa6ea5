-- Each block of a card is free or lent, and remains free or lent through each operation.
use Rattle.std.proofs.Common.{◌≡◌, refl, sym, ◌∙◌, ap, ℕ, zero, suc, ◌-◌, Bool, true, false, not, is_some, List, [], ◌∷◌, get_or, slice_set, inl, inr}
use Rattle.std.specs.FinMap as map
use Rattle.std.specs.Ordering.{nat_cmp}
use Rattle.std.proofs.lemmas.Bool.Decides.{eqb_tells}
use Rattle.nic_device.specs.DmaArena.Memory.{Memory, has_block, SameLent}
use Rattle.nic_device.specs.DmaArena.Numbers.{Numbers, is_free, are_all_free, with_free, all_free}
use Rattle.nic_device.proofs.DmaArena.Arenas.{own_within, is_own-of_free, is_free_from, is_own-with_free, is_free-with_free_same, is_free-with_free_other, is_free-all_free, CountsFree-numbers}
use Rattle.nic_device.proofs.DmaArena.Bus.{get-insert_same, get-insert_other, get-remove_same, get-remove_other}
use Rattle.card.specs.Card.{AreShared}

-- A lent block isn't free.
pub lent_away : (m : Memory) (a : Numbers) (n : ℕ) → AreShared m a → has_block m n ≡ true → is_free a n ≡ false
lent_away m a n h lent = h.either n (h.few n lent) ∙ ap not lent

not_true : (b : Bool) → not b ≡ true → b ≡ false
not_true true e = cc
not_true false e = refl

-- A free block isn't lent.
pub free_not_lent : (m : Memory) (a : Numbers) (n : ℕ) → AreShared m a → is_free a n ≡ true → has_block m n ≡ false
free_not_lent m a n h free = not_true (has_block m n) (sym (h.either n (is_own-of_free a n free)) ∙ free)

-- A returned block is free.
pub shared-taken : (m : Memory) (a : Numbers) (n : ℕ) → AreShared m a → has_block m n ≡ true
    → AreShared (map.remove m n) (with_free a n true)
shared-taken m a n h lent =
    let own = h.few n lent in
    record {
      first = h.first;
      either = λ q mine. elim (eqb_tells q n) [
        | inl (test, is) ↦ rw is
            (is_free-with_free_same a n true own ∙ ap (λ o. not (is_some o)) (sym (get-remove_same m n)))
        | inr (test, other) ↦ is_free-with_free_other a n true q own other
            ∙ h.either q (sym (is_own-with_free a n true q) ∙ mine)
            ∙ ap (λ o. not (is_some o)) (sym (get-remove_other m n q other))
      ];
      few = λ q has. is_own-with_free a n true q ∙ elim (eqb_tells q n) [
        | inl (test, is) ↦ rw is own
        | inr (test, other) ↦ h.few q (ap is_some (sym (get-remove_other m n q other)) ∙ has)
      ];
    }

-- A free block is lent.
pub shared-lent : (m : Memory) (a : Numbers) (n : ℕ) (bytes : List ℕ) → AreShared m a → is_free a n ≡ true
    → AreShared (map.insert m n bytes) (with_free a n false)
shared-lent m a n bytes h free =
    let own = is_own-of_free a n free in
    record {
      first = h.first;
      either = λ q mine. elim (eqb_tells q n) [
        | inl (test, is) ↦ rw is
            (is_free-with_free_same a n false own ∙ ap (λ o. not (is_some o)) (sym (get-insert_same m n bytes)))
        | inr (test, other) ↦ is_free-with_free_other a n false q own other
            ∙ h.either q (sym (is_own-with_free a n false q) ∙ mine)
            ∙ ap (λ o. not (is_some o)) (sym (get-insert_other m n bytes q other))
      ];
      few = λ q has. is_own-with_free a n false q ∙ elim (eqb_tells q n) [
        | inl (test, is) ↦ rw is own
        | inr (test, other) ↦ h.few q (ap is_some (sym (get-insert_other m n bytes q other)) ∙ has)
      ];
    }

-- Writes move no block.
pub shared-same : (m n : Memory) (a : Numbers) → AreShared m a → SameLent n m → AreShared n a
shared-same m n a h same = record {
  first = h.first;
  either = λ q mine. h.either q mine ∙ ap not (sym (same q));
  few = λ q has. h.few q (sym (same q) ∙ has);
}

none_has : (m : Memory) (q : ℕ) → m ≡ map.empty → has_block m q ≡ false
none_has m q none = ap (λ (n : Memory). has_block n q) none ∙ ap is_some (map.get-empty nat_cmp q)

-- At first all blocks are free.
pub shared-new : (m : Memory) (count : ℕ) → m ≡ map.empty → AreShared m (all_free 0 count)
shared-new m count none = record {
  first = refl;
  either = λ q mine. is_free-all_free 0 count q ∙ mine ∙ ap not (sym (none_has m q none));
  few = λ q has. (let no : false ≡ true = sym (none_has m q none) ∙ has in cc);
}

-- If no block is lent, all blocks are free.
pub all_free_at_last : (m : Memory) (a : Numbers) → AreShared m a → ((n : ℕ) → has_block m n ≡ false)
    → are_all_free a ≡ true
all_free_at_last m a h none = (CountsFree-numbers a).all.1 (λ n own. h.either n own ∙ ap not (none n))

set_back : (xs : List Bool) (k : ℕ) → get_or xs k false ≡ true → slice_set (slice_set xs k false) k true ≡ xs
set_back [] k e = cc
set_back (x ∷ xs) zero e = ap (λ y. y ∷ xs) (sym e)
set_back (x ∷ xs) (suc k) e = ap (λ ys. x ∷ ys) (set_back xs k e)

-- Taking a block and returning it leaves the arena unchanged.
pub with_free-back : (a : Numbers) (n : ℕ) → is_free a n ≡ true → with_free (with_free a n false) n true ≡ a
with_free-back a n free =
    let low = (own_within a n (is_own-of_free a n free)).0 in
    ap (λ xs. record a { free = xs }) (set_back a.free (n - a.first) (sym (is_free_from a n low) ∙ free))
