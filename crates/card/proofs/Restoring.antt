-- A card's blocks when its device is kept or restored.
use Rattle.std.proofs.Common.{◌≡◌, refl, sym, subst, ◌∙◌, ap, ℕ, ◌-◌, ◌<◌, ◌≤◌, Bool, true, false, not, length, get_or, Result, Ok, Err, OnOk, OnErr, arith}
use Rattle.std.proofs.lemmas.List.{ext_get_or, length-replicate}
use Rattle.std.proofs.lemmas.List.FromFn.{get_or-map-range_with_len, length-map-range_with_len}
use Rattle.nic_device.specs.Blocks.{HaveLeft, IsLowestTaken, StillLeft}
use Rattle.nic_device.specs.DmaArena.Memory.{Memory, has_block}
use Rattle.nic_device.specs.DmaArena.Numbers.{Numbers, all_free, are_all_free, count_of, is_free, is_own}
use Rattle.nic_device.specs.State.{State}
use Rattle.nic_device.proofs.DmaArena.Arenas.{own_within, own_of_within, is_free_from, is_own-of_free, is_own-all_free, own_within-all_free, is_free-all_free, not_free, CountsFree-numbers}
use Rattle.card.specs.Card.{Holdings, AreShared}
use Rattle.card.specs.Kept.{blocks_not_lent}
use Rattle.card.proofs.Sharing.{lent_away}

-- Which blocks are lent determines which blocks are free.

slot-shared : (m : Memory) (a : Numbers) (i : ℕ) → AreShared m a → i < length a.free
    → get_or a.free i false ≡ not (has_block m i)
slot-shared m a i h small =
    let low : a.first ≤ i = omega (arith, h.first) in
    let own : is_own a i ≡ true = own_of_within a i low (omega (arith, small)) in
    let place : i - a.first ≡ i = omega (arith, h.first) in
    ap (λ k. get_or a.free k false) (sym place) ∙ sym (is_free_from a i low) ∙ h.either i own

free-beside : (m : Memory) (a : Numbers) → AreShared m a
    → a.free ≡ (blocks_not_lent (length a.free) m).free
free-beside m a h =
    ext_get_or false a.free _ (sym (length-map-range_with_len (λ n. not (has_block m n)) 0 (length a.free)))
    (λ i small. slot-shared m a i h small
    ∙ sym (get_or-map-range_with_len (λ n. not (has_block m n)) 0 (length a.free) i i false small (omega arith)))

pub beside-is : (m : Memory) (a : Numbers) → AreShared m a → blocks_not_lent (count_of a) m ≡ a
beside-is m a h =
    sym (ap (λ f. let b : Numbers = record { first = f; free = a.free } in b) h.first
    ∙ ap (λ xs. let b : Numbers = record { first = 0; free = xs } in b) (free-beside m a h))

-- What a saved copy of a card contains.
pub kept-shared : (d s : State) (a : Numbers) (count : ℕ) → AreShared d.memory a → s ≡ d → count ≡ count_of a
    → AreShared s.memory (blocks_not_lent count s.memory)
kept-shared d s a count h is all =
    rw (is, all) (subst (AreShared d.memory) (sym (beside-is d.memory a h)) h)

pub kept-is : (d s : State) (a : Numbers) (count : ℕ) → AreShared d.memory a → s ≡ d → count ≡ count_of a
    → (let c : Holdings = record { device = s; arena = blocks_not_lent count s.memory } in c)
    ≡ record { device = d; arena = a }
kept-is d s a count h is all =
    rw (is, all) (ap (λ x. let c : Holdings = record { device = d; arena = x } in c) (beside-is d.memory a h))

-- Each lent block has a number below the count.

pub lent-few : (m : Memory) (count n : ℕ) → AreShared m (blocks_not_lent count m) → has_block m n ≡ true → n < count
lent-few m count n h lent =
    let within = own_within (blocks_not_lent count m) n (h.few n lent) in
    omega (arith, within.1, length-map-range_with_len (λ n. not (has_block m n)) 0 count)

-- All blocks of a new arena are free.
pub new-free : (count n : ℕ) → n < count → is_free (all_free 0 count) n ≡ true
new-free count n small = is_free-all_free 0 count n ∙ is_own-all_free 0 count n (omega arith) (omega (arith, small))

pub new-unused : (count : ℕ) → are_all_free (all_free 0 count) ≡ true
new-unused count = (CountsFree-numbers (all_free 0 count)).all.1 (λ n own. is_free-all_free 0 count n ∙ own)

-- Therefore no lent block prevents a device from being restored.
pub never-taken : (m : Memory) (count n : ℕ) → AreShared m (blocks_not_lent count m)
    → IsLowestTaken (all_free 0 count) m n → true ≡ false
never-taken m count n h is = sym (new-free count n (lent-few m count n h is.lent)) ∙ is.taken

-- The blocks that left a new arena are lent; the others are free.

either-left : (m : Memory) (b : Numbers) (count n : ℕ) (has : Bool) → HaveLeft (all_free 0 count) b m → n < count
    → has_block m n ≡ has → is_free b n ≡ not has
either-left m b count n true left small is = (left.lent n is).1
either-left m b count n false left small is = left.others n is ∙ new-free count n small

left-count : (m : Memory) (b : Numbers) (count : ℕ) → HaveLeft (all_free 0 count) b m → count_of b ≡ count
left-count m b count left = left.count ∙ length-replicate count true

left-small : (m : Memory) (b : Numbers) (count n : ℕ) → HaveLeft (all_free 0 count) b m → is_own b n ≡ true
    → n < count
left-small m b count n left own =
    let within = own_within b n own in omega (arith, within.1, left.first, left-count m b count left)

pub shared-left : (m : Memory) (b : Numbers) (count : ℕ) → HaveLeft (all_free 0 count) b m → AreShared m b
shared-left m b count left = record {
  first = left.first;
  either = λ n own. either-left m b count n (has_block m n) left (left-small m b count n left own) refl;
  few = λ n has.
      let within = own_within-all_free 0 count n (is_own-of_free (all_free 0 count) n (left.lent n has).0) in
      own_of_within b n (omega (arith, left.first))
      (omega (arith, within.1, left.first, left-count m b count left));
}

-- The arena of a restored card.
pub restored-shared : (s d : State) (a b : Numbers) (count : ℕ) → a ≡ all_free 0 count → d ≡ s
    → HaveLeft a b s.memory → AreShared d.memory b
restored-shared s d a b count all is left =
    rw is (shared-left s.memory b count (subst (λ (x : Numbers). HaveLeft x b s.memory) all left))

pub restored-is : (s d : State) (a b : Numbers) (count : ℕ) → a ≡ all_free 0 count → d ≡ s
    → HaveLeft a b s.memory
    → (let c : Holdings = record { device = d; arena = b } in c)
    ≡ record { device = s; arena = blocks_not_lent count s.memory }
restored-is s d a b count all is left =
    let new = subst (λ (x : Numbers). HaveLeft x b s.memory) all left in
    let blocks : b ≡ blocks_not_lent count s.memory =
    sym (beside-is s.memory b (shared-left s.memory b count new))
    ∙ ap (λ k. blocks_not_lent k s.memory) (left-count s.memory b count new) in
    rw (is, blocks) refl

-- A card whose device is restored keeps its arena.

is_free-not_lent : (m : Memory) (a : Numbers) (n : ℕ) (own : Bool) → AreShared m a → has_block m n ≡ false
    → is_own a n ≡ own → is_free a n ≡ own
is_free-not_lent m a n true h none is = h.either n is ∙ ap not none
is_free-not_lent m a n false h none is = not_free a n (is_free a n) refl is

own-same : (a : Numbers) (n : ℕ) → a.first ≡ 0 → is_own (all_free 0 (count_of a)) n ≡ is_own a n
own-same a n first = rw (first, length-replicate (count_of a) true) refl

pub shared-count : (m : Memory) (a : Numbers) (n : ℕ) → AreShared m a → has_block m n ≡ true → n < count_of a
shared-count m a n h lent = let within = own_within a n (h.few n lent) in omega (arith, within.1, h.first)

pub all-left : (m : Memory) (a : Numbers) → AreShared m a → HaveLeft (all_free 0 (count_of a)) a m
all-left m a h = record {
  first = h.first;
  count = sym (length-replicate (count_of a) true);
  lent = λ n has. (new-free (count_of a) n (shared-count m a n h has), lent_away m a n h has);
  others = λ n none.
      is_free-not_lent m a n (is_own a n) h none refl ∙ sym (own-same a n h.first)
      ∙ sym (is_free-all_free 0 (count_of a) n);
}

module _ (m : Memory) (s d : State) (a b : Numbers) (count : ℕ) (h : AreShared m a) (all : count ≡ count_of a)
    (is : d ≡ s) (left : StillLeft a m b s.memory) where
  left-all : HaveLeft (all_free 0 count) b s.memory
  left-all = rw all (left (all_free 0 (count_of a)) (all-left m a h))

  pub back-shared : AreShared d.memory b
  back-shared = restored-shared s d (all_free 0 count) b count refl is left-all

  pub back-is : (let c : Holdings = record { device = d; arena = b } in c)
      ≡ record { device = s; arena = blocks_not_lent count s.memory }
  back-is = restored-is s d (all_free 0 count) b count refl is left-all

-- The shared blocks after a restore that may have been refused.

pub tried-shared : {A E : Type 0} (former s d : State) (a b : Numbers) (count : ℕ) (result : Result A E)
    → AreShared former.memory a → count ≡ count_of a → OnOk result (d ≡ s)
    → OnOk result (StillLeft a former.memory b s.memory) → OnErr result (d ≡ former) → OnErr result (b ≡ a)
    → AreShared d.memory b
tried-shared former s d a b count (Ok done) h all is left same kept =
    back-shared former.memory s d a b count h all is left
tried-shared former s d a b count (Err why) h all is left same kept = rw (same, kept) h

pub tried-is : {A E : Type 0} (former s d : State) (a b : Numbers) (count : ℕ) (result : Result A E)
    → AreShared former.memory a → count ≡ count_of a → OnOk result (d ≡ s)
    → OnOk result (StillLeft a former.memory b s.memory)
    → OnOk result ((let c : Holdings = record { device = d; arena = b } in c)
    ≡ record { device = s; arena = blocks_not_lent count s.memory })
tried-is former s d a b count (Ok done) h all is left = back-is former.memory s d a b count h all is left
tried-is former s d a b count (Err why) h all is left = tt
