-- Copies of lent blocks are in ascending order and represent the memory from which they were copied.
use Rattle.std.proofs.Common.{◌≡◌, ◌≢◌, ℕ, zero, suc, ◌+◌, ◌-◌, ◌*◌, ◌/◌, ◌<◌, ◌≤◌, inl, inr, Bool, true, false, Option, Some, None, List, [], ◌∷◌, length, get_or, drop, refl, sym, ap, subst, ◌∙◌, arith}
use Rattle.std.specs.Prelude.{is_some}
use Rattle.std.specs.FinMap as map
use Rattle.std.specs.Cmp.{nat_cmp_total}
use Rattle.std.specs.Ordering.{nat_cmp}
use Rattle.std.proofs.lemmas.Bool.{cases_eq, cases_lt}
use Rattle.std.proofs.lemmas.List.{take_all}
use Rattle.std.proofs.Math.Seq.{drop-cons}
use Rattle.rx_ring.specs.DmaArena.Memory.{Memory, has_block, is_lent, read_at, part, IsWhole}
use Rattle.rx_ring.specs.DmaArena.Numbers.{Numbers, is_free, with_free}
use Rattle.rx_ring.proofs.DmaArena.Blocks.{read_at_in}
use Rattle.rx_ring.proofs.DmaArena.Bus.{get-insert_same, get-insert_other, is_lent_first, is_lent_of_each, of_some}
use Rattle.nic_device.specs.Blocks.{memory_of, AreRising, AreBelow, AreFree, HaveLeft, IsLowestTaken, TellsTaken}
use Rattle.nic_device.proofs.Leaving.{has-insert_other, left-more}

-- One block of a memory.

none_of : (o : Option (List ℕ)) → ((bytes : List ℕ) → o ≡ Some bytes → ⊥) → o ≡ None
none_of None never = refl
none_of (Some bytes) never = absurd (never bytes refl)

got_lent : (m : Memory) (n : ℕ) → IsWhole m → is_lent m (n * 2048) 2048 ≡ true
    → map.get m n ≡ Some (read_at m (n * 2048) 2048)
unfolding part
got_lent m n whole lent =
    let place : n * 2048 / 2048 ≡ n = omega arith in
    let has : has_block m n ≡ true =
    subst (λ (k : ℕ). has_block m k ≡ true) place (is_lent_first m (n * 2048) 2047 lent) in
    let there : (bytes : List ℕ) × (map.get m n ≡ Some bytes) = of_some (map.get m n) has in
    let size : length there.0 ≡ 2048 = (whole.block n there.0 there.1).size in
    let start : n * 2048 ≡ 2048 * n + 0 = omega arith in
    let room : 0 + 2048 ≤ 2048 = omega arith in
    let read : read_at m (n * 2048) 2048 ≡ part there.0 0 2048 =
    read_at_in m (n * 2048) 2048 n 0 there.0 there.1 size start room in
    there.1 ∙ ap Some (sym (read ∙ take_all 2048 there.0 (omega arith)))

got_none : (m : Memory) (n : ℕ) → is_lent m (n * 2048) 2048 ≡ false → map.get m n ≡ None
got_none m n unlent = none_of (map.get m n) (λ bytes is.
    let lent : is_lent m (n * 2048) 2048 ≡ true = is_lent_of_each m (n * 2048) 2048 (λ c low high.
    let place : c / 2048 ≡ n = omega arith in rw (place, is) refl) in
    let no : true ≡ false = sym lent ∙ unlent in cc)

-- A failed range test shows that there is no block to copy.
pub copy-of_none : (m : Memory) (n k : ℕ) (lent : Bool) → k ≡ n → lent ≡ is_lent m (k * 2048) 2048 → lent ≡ false
    → None ≡ map.get m n
copy-of_none m n k lent is test unlent =
    sym (got_none m n (ap (λ i. is_lent m (i * 2048) 2048) (sym is) ∙ sym test ∙ unlent))

pub copy-of_some : (m : Memory) (n k : ℕ) (lent : Bool) (bytes : List ℕ) → IsWhole m → k ≡ n
    → lent ≡ is_lent m (k * 2048) 2048 → lent ≡ true → bytes ≡ read_at m (k * 2048) 2048 → Some bytes ≡ map.get m n
copy-of_some m n k lent bytes whole is test has read =
    let there = got_lent m n whole (ap (λ i. is_lent m (i * 2048) 2048) (sym is) ∙ sym test ∙ has) in
    ap Some (read ∙ ap (λ i. read_at m (i * 2048) 2048) is) ∙ sym there

-- The blocks at and above a number.

-- The second memory has the first memory's blocks at and above a number, and no blocks below it.
pub record IsFrom (whole part : Memory) (start : ℕ) : Type 0 where
  pub below : (number : ℕ) → number < start → map.get part number ≡ None
  pub above : (number : ℕ) → start ≤ number → map.get part number ≡ map.get whole number

past-none : (m : Memory) (n end : ℕ) → AreBelow m end → end ≤ n → map.get m n ≡ None
past-none m n end below past = none_of (map.get m n) (λ bytes is.
    let small : n < end = below n (ap is_some is) in omega arith)

pub from_past : (m : Memory) (end : ℕ) → AreBelow m end → IsFrom m map.empty end
from_past m end below = record {
  below = λ n low. map.get-empty nat_cmp n;
  above = λ n past. map.get-empty nat_cmp n ∙ sym (past-none m n end below past);
}

pub from_none : (m part : Memory) (at : ℕ) → 0 < at → IsFrom m part at → map.get m (at - 1) ≡ None
    → IsFrom m part (at - 1)
from_none m part at some from none = record {
  below = λ n low. from.below n (omega arith);
  above = λ n high. elim (cases_eq n (at - 1)) as (λ _. map.get part n ≡ map.get m n) [
    | inl is ↦ rw (is, none) (from.below (at - 1) (omega arith))
    | inr ne ↦ from.above n (omega arith)
  ];
}

pub from_some : (m part : Memory) (at : ℕ) (bytes : List ℕ) → 0 < at → IsFrom m part at
    → map.get m (at - 1) ≡ Some bytes → IsFrom m (map.insert part (at - 1) bytes) (at - 1)
from_some m part at bytes some from there = record {
  below = λ n low.
      let ne : n ≢ at - 1 = omega arith in
      get-insert_other part (at - 1) bytes n ne ∙ from.below n (omega arith);
  above = λ n high. elim (cases_eq n (at - 1)) as (λ _. map.get (map.insert part (at - 1) bytes) n ≡ map.get m n) [
    | inl is ↦ rw (is, there) (get-insert_same part (at - 1) bytes)
    | inr ne ↦ get-insert_other part (at - 1) bytes n ne ∙ from.above n (omega arith)
  ];
}

pub from_all : (m part : Memory) → IsFrom m part 0 → part ≡ m
from_all m part from =
    map.same_map nat_cmp_total map.nat_cmp-IsAntisymmetric part m (λ n. from.above n (omega arith))

-- Copies in ascending order.

above_part : (m part : Memory) (at n : ℕ) → IsFrom m part at → has_block part n ≡ true → at ≤ n
above_part m part at n from has = elim (cases_lt n at) as (λ _. at ≤ n) [
  | inl low ↦ let no : false ≡ true = sym (ap is_some (from.below n low)) ∙ has in absurd (cc)
  | inr high ↦ high
]

pub rising_more : (m : Memory) (copies : List (ℕ × List ℕ)) (at : ℕ) (bytes : List ℕ) → 0 < at
    → IsFrom m (memory_of copies) at → AreRising copies → AreRising ((at - 1, bytes) ∷ copies)
rising_more m copies at bytes some from rising =
    let above : (n : ℕ) → has_block (memory_of copies) n ≡ true → at - 1 < n = λ n has.
    let high = above_part m (memory_of copies) at n from has in omega arith in
    (above, rising)

pub rising_drop : (copies : List (ℕ × List ℕ)) (k : ℕ) → AreRising copies → AreRising (drop k copies)
rising_drop copies zero rising = rising
rising_drop [] (suc k) rising = rising
rising_drop (copy ∷ copies) (suc k) rising = rising_drop copies k rising.1

-- The copy at an index, followed by the remaining copies.
pub drop-at : (copies : List (ℕ × List ℕ)) (at : ℕ) (copy : ℕ × List ℕ) → 0 < at → at ≤ length copies
    → copy ≡ get_or copies (at - 1) copy → drop (at - 1) copies ≡ copy ∷ drop at copies
drop-at copies at copy some inside is =
    let after : suc (at - 1) ≡ at = omega arith in
    let lt : at - 1 < length copies = omega arith in
    drop-cons copies (at - 1) copy lt
    ∙ ap (λ (x : ℕ × List ℕ). x ∷ drop (suc (at - 1)) copies) (sym is)
    ∙ ap (λ (k : ℕ). copy ∷ drop k copies) after

-- What a copy represents.

pub has-insert_same : (m : Memory) (n : ℕ) (bytes : List ℕ) → has_block (map.insert m n bytes) n ≡ true
has-insert_same m n bytes = ap is_some (get-insert_same m n bytes)

-- A later copy has another number.
pub apart : (copy : ℕ × List ℕ) (copies : List (ℕ × List ℕ)) (n : ℕ) → AreRising (copy ∷ copies)
    → has_block (memory_of copies) n ≡ true → n ≢ copy.0
apart copy copies n rising has = let above = rising.0 n has in omega arith

unlent-by : (copy : ℕ × List ℕ) (copies : List (ℕ × List ℕ)) (has : Bool) → AreRising (copy ∷ copies)
    → has_block (memory_of copies) copy.0 ≡ has → has ≡ false
unlent-by copy copies true rising is = absurd (apart copy copies copy.0 rising is refl)
unlent-by copy copies false rising is = refl

unlent-head : (copy : ℕ × List ℕ) (copies : List (ℕ × List ℕ)) → AreRising (copy ∷ copies)
    → has_block (memory_of copies) copy.0 ≡ false
unlent-head copy copies rising = unlent-by copy copies (has_block (memory_of copies) copy.0) rising refl

-- A copy that represents a block among the copies after the first k also represents this block among all copies.
pub get-drop : (copies : List (ℕ × List ℕ)) (k n : ℕ) (bytes : List ℕ) → AreRising copies
    → map.get (memory_of (drop k copies)) n ≡ Some bytes → map.get (memory_of copies) n ≡ Some bytes
get-drop copies zero n bytes rising got = got
get-drop [] (suc k) n bytes rising got = got
get-drop (copy ∷ copies) (suc k) n bytes rising got =
    let there = get-drop copies k n bytes rising.1 got in
    get-insert_other (memory_of copies) copy.0 copy.1 n (apart copy copies n rising (ap is_some there)) ∙ there

-- The block that a copy represents.
pub get-at : (copies : List (ℕ × List ℕ)) (at : ℕ) (copy : ℕ × List ℕ) → AreRising copies
    → drop (at - 1) copies ≡ copy ∷ drop at copies → map.get (memory_of copies) copy.0 ≡ Some copy.1
get-at copies at copy rising is =
    get-drop copies (at - 1) copy.0 copy.1 rising
    (subst (λ (es : List (ℕ × List ℕ)). map.get (memory_of es) copy.0 ≡ Some copy.1) (sym is)
    (get-insert_same (memory_of (drop at copies)) copy.0 copy.1))

-- After the last copy, no copies follow.
pub memory-past : (copies : List (ℕ × List ℕ)) (k : ℕ) → length copies ≤ k → memory_of (drop k copies) ≡ map.empty
memory-past [] zero past = refl
memory-past [] (suc k) past = refl
memory-past (copy ∷ copies) zero past = absurd (omega arith)
memory-past (copy ∷ copies) (suc k) past = memory-past copies k (omega arith)

-- A copy, followed by the remaining copies.
pub record IsNext (copies : List (ℕ × List ℕ)) (at : ℕ) (copy : ℕ × List ℕ) : Type 0 where
  pub next : drop (at - 1) copies ≡ copy ∷ drop at copies
  pub rising : AreRising (copy ∷ drop at copies)
  pub there : map.get (memory_of copies) copy.0 ≡ Some copy.1
  pub new : has_block (memory_of (drop at copies)) copy.0 ≡ false

pub next-copy : (copies : List (ℕ × List ℕ)) (at : ℕ) (copy : ℕ × List ℕ) → AreRising copies → 0 < at
    → at ≤ length copies → copy ≡ get_or copies (at - 1) copy → IsNext copies at copy
next-copy copies at copy rising some inside is =
    let next = drop-at copies at copy some inside is in
    let rises : AreRising (copy ∷ drop at copies) = subst AreRising next (rising_drop copies (at - 1) rising) in
    record {
      next = next;
      rising = rises;
      there = get-at copies at copy rising next;
      new = unlent-head copy (drop at copies) rises;
    }

-- Lending the next copy.
pub lend-next : (copies : List (ℕ × List ℕ)) (before arena later : Numbers) (m more : Memory) (at : ℕ)
    (copy : ℕ × List ℕ) → IsNext copies at copy → m ≡ memory_of (drop at copies) → HaveLeft before arena m
    → AreFree before (memory_of copies) → more ≡ map.insert m copy.0 copy.1 → later ≡ with_free arena copy.0 false
    → (more ≡ memory_of (drop (at - 1) copies)) × HaveLeft before later more
lend-next copies before arena later m more at copy is lent left free stored taken =
    let unlent : has_block m copy.0 ≡ false = ap (λ (x : Memory). has_block x copy.0) lent ∙ is.new in
    let own : is_free before copy.0 ≡ true = free copy.0 (ap is_some is.there) in (
      stored ∙ ap (λ (x : Memory). map.insert x copy.0 copy.1) lent ∙ sym (ap memory_of is.next),
      rw (stored, taken) (left-more before arena m copy.0 copy.1 left unlent own),
    )

-- The lowest block that isn't free.

free_more : (a : Numbers) (m : Memory) (n : ℕ) (bytes : List ℕ) → is_free a n ≡ true → AreFree a m
    → AreFree a (map.insert m n bytes)
free_more a m n bytes free all k has = elim (cases_eq k n) as (λ _. is_free a k ≡ true) [
  | inl is ↦ rw is free
  | inr ne ↦ all k (sym (has-insert_other m n bytes k ne) ∙ has)
]

lowest_more : (a : Numbers) (m : Memory) (n : ℕ) (bytes : List ℕ) (block : ℕ) → is_free a n ≡ true
    → IsLowestTaken a m block → IsLowestTaken a (map.insert m n bytes) block
lowest_more a m n bytes block free is = record {
  lent = elim (cases_eq block n) as (λ _. has_block (map.insert m n bytes) block ≡ true) [
    | inl same ↦ rw same (has-insert_same m n bytes)
    | inr ne ↦ has-insert_other m n bytes block ne ∙ is.lent
  ];
  taken = is.taken;
  lowest = λ k low has. elim (cases_eq k n) as (λ _. is_free a k ≡ true) [
    | inl same ↦ rw same free
    | inr ne ↦ is.lowest k low (sym (has-insert_other m n bytes k ne) ∙ has)
  ];
}

-- One more copy, whose block is free.
pub tells_more : (a : Numbers) (copy : ℕ × List ℕ) (copies : List (ℕ × List ℕ)) (lowest : Option ℕ)
    → is_free a copy.0 ≡ true → TellsTaken a (memory_of copies) lowest
    → TellsTaken a (memory_of (copy ∷ copies)) lowest
tells_more a copy copies None free all = free_more a (memory_of copies) copy.0 copy.1 free all
tells_more a copy copies (Some block) free is = lowest_more a (memory_of copies) copy.0 copy.1 block free is

-- One more copy, whose block isn't free. This block is then the lowest one that isn't free.
pub tells_lower : (a : Numbers) (copy : ℕ × List ℕ) (copies : List (ℕ × List ℕ)) → AreRising (copy ∷ copies)
    → is_free a copy.0 ≡ false → TellsTaken a (memory_of (copy ∷ copies)) (Some copy.0)
tells_lower a copy copies rising taken = record {
  lent = has-insert_same (memory_of copies) copy.0 copy.1;
  taken = taken;
  lowest = λ k low has. elim (cases_eq k copy.0) as (λ _. is_free a k ≡ true) [
    | inl same ↦ absurd (omega arith)
    | inr ne ↦
        let above = rising.0 k (sym (has-insert_other (memory_of copies) copy.0 copy.1 k ne) ∙ has) in
        absurd (omega arith)
  ];
}

pub tells_none : (a : Numbers) → TellsTaken a (memory_of []) None
tells_none a n has =
    let no : false ≡ true = sym (ap is_some (map.get-empty {X = List ℕ} nat_cmp n)) ∙ has in absurd (cc)
