-- Lemmas about ranges within one block, and about the blocks that a range doesn't touch.
use Rattle.std.proofs.Common.{◌≡◌, ◌≢◌, ℕ, zero, suc, ◌+◌, ◌*◌, ◌/◌, ◌%◌, ◌<◌, ◌≤◌, ◌⊎◌, inl, inr, true, Some, List, [], ◌∷◌, length, set, get_or, refl, sym, ap, ◌∙◌, arith}
use Rattle.std.specs.Cmp.{nat_cmp_total}
use Rattle.std.specs.FinMap as map
use Rattle.std.proofs.lemmas.Bool.{cases_eq, cases_lt}
use Rattle.std.proofs.lemmas.List.{drop_more, length-set}
use Rattle.dma_arena.specs.Memory.{Memory, has_block, byte_at, is_lent, read_at, set_byte, write_at, put_bytes, part, IsWhole, Avoids}
use Rattle.dma_arena.specs.Laws.{InsideBlock}
use Rattle.dma_arena.proofs.Bytes.{put_bytes-none, put_bytes-more}
use Rattle.dma_arena.proofs.Bus.{get-insert_same, get-insert_other, is_lent_of_each}
use Rattle.dma_arena.proofs.Single.{get-set_byte_same, get-set_byte_other}

-- Ranges within one block, and the blocks that a range avoids.

avoids_first : (q a n : ℕ) → Avoids q a (suc n) → a / 2048 ≢ q
avoids_first q a n (inl h) e = absurd (omega arith)
avoids_first q a n (inr h) e = absurd (omega arith)

avoids_rest : (q a n : ℕ) → Avoids q a (suc n) → Avoids q (a + 1) n
avoids_rest q a n (inl h) = inl (omega arith)
avoids_rest q a n (inr h) = inr (omega arith)

-- A write changes no block that its range doesn't touch.
pub get-write_at_out : (m : Memory) (a : ℕ) (bs : List ℕ) (q : ℕ) → Avoids q a (length bs)
    → map.get (write_at m a bs) q ≡ map.get m q
unfolding write_at
get-write_at_out m a [] q h = refl
get-write_at_out m a (b ∷ bs) q h =
    get-write_at_out (set_byte m a b) (a + 1) bs q (avoids_rest q a (length bs) h)
    ∙ get-set_byte_other m a b q (avoids_first q a (length bs) h)

-- After a write within one block, the block contains the written bytes at their index.
pub get-write_at_in : (m : Memory) (a : ℕ) (bs : List ℕ) (q at : ℕ) (xs : List ℕ) → map.get m q ≡ Some xs
    → length xs ≡ 2048 → a ≡ 2048 * q + at → at + length bs ≤ 2048
    → map.get (write_at m a bs) q ≡ Some (put_bytes xs at bs)
unfolding write_at
get-write_at_in m a [] q at xs is whole e h = is ∙ ap (λ (ys : List ℕ). Some ys) (sym (put_bytes-none xs at))
get-write_at_in m a (b ∷ bs) q at xs is whole e h =
    let block : a / 2048 ≡ q = omega arith in
    let place : a % 2048 ≡ at = omega arith in
    let lt : at < length xs = omega arith in
    let here : map.get (set_byte m a b) q ≡ Some (set xs at b) = rw (← place) (get-set_byte_same m a b q xs block is) in
    get-write_at_in (set_byte m a b) (a + 1) bs q (at + 1) (set xs at b) here (length-set xs at b ∙ whole) (omega arith)
    (omega arith)
    ∙ ap (λ (ys : List ℕ). Some ys) (put_bytes-more xs at b bs lt)

other_avoids : (q r at n : ℕ) → r ≢ q → at + n ≤ 2048 → Avoids r (2048 * q + at) n
other_avoids q r at n ne h = elim (cases_lt q r) [ inl l ↦ inl (omega arith) | inr l ↦ inr (omega arith) ]

get-write_at : (m : Memory) (bs : List ℕ) (q at : ℕ) (xs : List ℕ) (r : ℕ) → map.get m q ≡ Some xs → length xs ≡ 2048
    → at + length bs ≤ 2048 → (r ≡ q) ⊎ (r ≢ q)
    → map.get (write_at m (2048 * q + at) bs) r ≡ map.get (map.insert m q (put_bytes xs at bs)) r
get-write_at m bs q at xs r is whole h (inl e) =
    rw (e, get-write_at_in m (2048 * q + at) bs q at xs is whole refl h, get-insert_same m q (put_bytes xs at bs)) refl
get-write_at m bs q at xs r is whole h (inr ne) =
    rw (
      get-write_at_out m (2048 * q + at) bs r (other_avoids q r at (length bs) ne h),
      get-insert_other m q (put_bytes xs at bs) r ne,
    ) refl

-- A write within one block changes only that block.
pub write_at_in : (m : Memory) (bs : List ℕ) (q at : ℕ) (xs : List ℕ) → map.get m q ≡ Some xs → length xs ≡ 2048
    → at + length bs ≤ 2048
    → write_at m (2048 * q + at) bs ≡ map.insert m q (put_bytes xs at bs)
write_at_in m bs q at xs is whole h =
    map.same_map nat_cmp_total map.nat_cmp-IsAntisymmetric _ _
    (λ r. get-write_at m bs q at xs r is whole h (cases_eq r q))

part-cons : (xs : List ℕ) (at n : ℕ) → at < length xs → part xs at (suc n) ≡ get_or xs at 0 ∷ part xs (at + 1) n
unfolding part
part-cons xs at n lt = rw (drop_more xs at 0 lt) refl

part-none : (xs : List ℕ) (at : ℕ) → part xs at 0 ≡ []
unfolding part
part-none xs at = refl

-- A read within one block returns the block's bytes in that range.
pub read_at_in : (m : Memory) (a n q at : ℕ) (xs : List ℕ) → map.get m q ≡ Some xs → length xs ≡ 2048
    → a ≡ 2048 * q + at → at + n ≤ 2048 → read_at m a n ≡ part xs at n
unfolding read_at byte_at
read_at_in m a zero q at xs is whole e h = sym (part-none xs at)
read_at_in m a (suc n) q at xs is whole e h =
    let block : a / 2048 ≡ q = omega arith in
    let place : a % 2048 ≡ at = omega arith in
    let lt : at < length xs = omega arith in
    rw (
      block,
      place,
      is,
      read_at_in m (a + 1) n q (at + 1) xs is whole (omega arith) (omega arith),
      part-cons xs at n lt,
    ) refl

-- A range within one lent block is lent.
pub is_lent_in : (m : Memory) (a n q at : ℕ) → has_block m q ≡ true → a ≡ 2048 * q + at → at + n ≤ 2048
    → is_lent m a n ≡ true
is_lent_in m a n q at has e h =
    is_lent_of_each m a n (λ c low high. let block : c / 2048 ≡ q = omega arith in rw block has)

-- All of the facts above, for one lent block.
pub InsideBlock-of_get : (m : Memory) (q at : ℕ) (xs : List ℕ) → IsWhole m → map.get m q ≡ Some xs
    → InsideBlock m q at xs
InsideBlock-of_get m q at xs whole is =
    let size : length xs ≡ 2048 = (whole.block q xs is).size in
    let has : has_block m q ≡ true = rw is refl in
    record {
      lent = λ n room. is_lent_in m (2048 * q + at) n q at has refl room;
      read = λ n room. read_at_in m (2048 * q + at) n q at xs is size refl room;
      written = λ bytes room. write_at_in m bytes q at xs is size room;
    }
