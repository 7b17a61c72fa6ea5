-- Lemmas about the blocks of a driver's ring.
use Rattle.std.proofs.Common.{◌≡◌, ◌≢◌, ℕ, zero, suc, ◌+◌, ◌-◌, ◌*◌, ◌/◌, ◌%◌, ◌↔◌, ◌<◌, ◌≤◌, inl, inr, Bool, true, false, ◌&&◌, cond, List, [], ◌∷◌, ◌++◌, length, refl, sym, ap, subst, ◌∙◌, append_assoc, arith}
use Rattle.std.specs.Prelude.{◌==◌, nat_le, nat_lt}
use Rattle.std.specs.List.{list_any, range_with_len}
use Rattle.std.proofs.lemmas.Bool.{cases_eq, cases_Bool, or_from, or_left, or_right, ne_eqb}
use Rattle.std.proofs.lemmas.Bool.Decides.{nat_tests}
use Rattle.std.proofs.lemmas.List.FromFn.{length-range_with_len}
use Rattle.device_lock.specs.NicDevice.DmaArena.Memory.{LiesIn}
use Rattle.device_lock.specs.NicDevice.DmaArena.Whereabouts.{times_in_hand}
use Rattle.pmd_access.specs.Slots.{descriptor_in, blocks_for, ring_blocks, is_ring_block, EachRingBlock}
use Rattle.pmd_access.proofs.Outside.{times_first, times_rest}

-- A ring with slots occupies at least one block.

pub some_blocks : (size : ℕ) → 0 < size → 0 < blocks_for size
some_blocks size some = omega (arith, some)

-- A run of numbers that is longer by one is the shorter run followed by the next number.

range_last : (n a j : ℕ) → a + n ≡ j → range_with_len a (suc n) ≡ range_with_len a n ++ j ∷ []
range_last zero a j e = ap (λ (i : ℕ). i ∷ []) (omega (arith, e))
range_last (suc n) a j e = ap (λ (xs : List ℕ). a ∷ xs) (range_last n (a + 1) j (omega (arith, e)))

pub range_more : (a n : ℕ) → range_with_len a (n + 1) ≡ range_with_len a n ++ (a + n) ∷ []
range_more a n =
    let on : n + 1 ≡ suc n = omega arith in
    ap (λ (k : ℕ). range_with_len a k) on ∙ range_last n a (a + n) refl

pub run_more : (front lent new : List ℕ) (a n : ℕ) → lent ≡ front ++ range_with_len a n → new ≡ lent ++ (a + n) ∷ []
    → new ≡ front ++ range_with_len a (n + 1)
run_more front lent new a n is pushed =
    pushed ∙ ap (λ (xs : List ℕ). xs ++ (a + n) ∷ []) is ∙ append_assoc front (range_with_len a n) ((a + n) ∷ [])
    ∙ ap (λ (xs : List ℕ). front ++ xs) (sym (range_more a n))

pub ring_blocks_many : (ring size : ℕ) → length (ring_blocks ring size) ≡ blocks_for size
ring_blocks_many ring size = length-range_with_len ring (blocks_for size)

-- A slot's descriptor is in one of the ring's blocks.

pub slot_block : (size slot : ℕ) → slot < size → slot / 128 < blocks_for size
slot_block size slot below = omega (arith, below)

pub slot_lies : (ring slot : ℕ) → LiesIn (ring + slot / 128) (descriptor_in ring slot) 16
slot_lies ring slot = (omega arith, omega arith)

-- The descriptor's offset within its block.
pub slot_place : (ring slot : ℕ) → descriptor_in ring slot ≡ 2048 * (ring + slot / 128) + 16 * (slot % 128)
slot_place ring slot = omega arith

pub slot_fits : (slot : ℕ) → 16 * (slot % 128) + 16 ≤ 2048
slot_fits slot = omega arith

-- Which blocks belong to the ring.

pub ring_block_is : (ring size k : ℕ) → k < blocks_for size → is_ring_block ring size (ring + k) ≡ true
ring_block_is ring size k below = grind (arith, nat_tests)

pub ring_block_low : (ring size n : ℕ) → is_ring_block ring size n ≡ true → ring ≤ n
ring_block_low ring size n is = grind (arith, nat_tests)

pub ring_block_high : (ring size n : ℕ) → is_ring_block ring size n ≡ true → n < ring + blocks_for size
ring_block_high ring size n is = grind (arith, nat_tests)

pub ring_block_at : (ring size n : ℕ) → is_ring_block ring size n ≡ true
    → (k : ℕ) × (k < blocks_for size) × (n ≡ ring + k)
ring_block_at ring size n is =
    let low = ring_block_low ring size n is in
    let high = ring_block_high ring size n is in
    (n - ring, omega (arith, low, high), omega (arith, low))

pub ring_block_apart : (ring size n : ℕ) → is_ring_block ring size n ≡ false → (k : ℕ) → k < blocks_for size
    → n ≢ ring + k
ring_block_apart ring size n other k below e = grind (arith, nat_tests)

-- How often a number is among the ring's blocks.

abbrev within : ℕ → ℕ → ℕ → Bool
within ring many n = nat_le ring n && nat_lt n (ring + many)

within_none : (ring n : ℕ) → within ring 0 n ≡ false
within_none ring n = grind (arith, nat_tests)

within_first : (ring many n : ℕ) → n ≡ ring → within ring (suc many) n ≡ true
within_first ring many n same = grind (arith, nat_tests)

past_first : (ring many n : ℕ) → n ≡ ring → within (ring + 1) many n ≡ false
past_first ring many n same = grind (arith, nat_tests)

within_rest : (ring many n : ℕ) → n ≢ ring → within ring (suc many) n ≡ within (ring + 1) many n
within_rest ring many n ne = grind (arith, nat_tests)

times_same : (xs : List ℕ) (x n : ℕ) → n ≡ x → times_in_hand (x ∷ xs) n ≡ 1 + times_in_hand xs n
times_same xs x n same =
    subst (λ (k : ℕ). times_in_hand (x ∷ xs) k ≡ 1 + times_in_hand xs k) (sym same) (times_first xs x)

times_within : (many ring n : ℕ) → times_in_hand (range_with_len ring many) n ≡ cond (within ring many n) 1 0
times_within zero ring n = rw (within_none ring n) refl
times_within (suc many) ring n = elim (cases_eq n ring) [
  | inl same ↦
      let rest : times_in_hand (range_with_len (ring + 1) many) n ≡ 0 =
      times_within many (ring + 1) n ∙ ap (λ (b : Bool). cond b 1 0) (past_first ring many n same) in
      rw (within_first ring many n same)
      (times_same (range_with_len (ring + 1) many) ring n same ∙ ap (λ (t : ℕ). 1 + t) rest)
  | inr ne ↦
      rw (within_rest ring many n ne)
      (times_rest (range_with_len (ring + 1) many) ring n ne ∙ times_within many (ring + 1) n)
]

pub ring_block_times : (ring size n : ℕ)
    → times_in_hand (ring_blocks ring size) n ≡ cond (is_ring_block ring size n) 1 0
ring_block_times ring size n = times_within (blocks_for size) ring n

pub ring_block_out : (ring size n : ℕ)
    → (is_ring_block ring size n ≡ true) ↔ (0 < times_in_hand (ring_blocks ring size) n)
ring_block_out ring size n = (
  λ is.
      let one : times_in_hand (ring_blocks ring size) n ≡ 1 = rw is at (ring_block_times ring size n) in
      omega (arith, one),
  λ some. elim (cases_Bool (is_ring_block ring size n)) [
    | inl is ↦ is
    | inr other ↦
        let none : times_in_hand (ring_blocks ring size) n ≡ 0 = rw other at (ring_block_times ring size n) in
        absurd (omega (arith, none, some))
  ],
)

-- A number that occurs in a list is found by `list_any`.
pub among_times : (xs : List ℕ) (n : ℕ) → 0 < times_in_hand xs n → list_any (λ b. n == b) xs ≡ true
among_times [] n some = absurd (omega (arith, some))
among_times (x ∷ xs) n some = elim (cases_eq n x) [
  | inl same ↦ or_left (n == x) (list_any (λ b. n == b) xs) (grind (arith, nat_tests))
  | inr ne ↦
      or_right (n == x) (list_any (λ b. n == b) xs)
      (among_times xs n (subst (λ (t : ℕ). 0 < t) (times_rest xs x n ne) some))
]

pub times_among : (xs : List ℕ) (n : ℕ) → times_in_hand xs n ≡ 0 → list_any (λ b. n == b) xs ≡ false
times_among [] n none = refl
times_among (x ∷ xs) n none = elim (cases_eq n x) [
  | inl same ↦ absurd (omega (arith, none, times_same xs x n same))
  | inr ne ↦
      or_from (n == x) (list_any (λ b. n == b) xs) (ne_eqb n x ne)
      (times_among xs n (sym (times_rest xs x n ne) ∙ none))
]

pub ring_block_among : (ring size n : ℕ) → list_any (λ b. n == b) (ring_blocks ring size) ≡ is_ring_block ring size n
ring_block_among ring size n = elim (cases_Bool (is_ring_block ring size n)) [
  | inl is ↦
      rw is
      (among_times (ring_blocks ring size) n
      (subst (λ (t : ℕ). 0 < t) (sym (ring_block_times ring size n ∙ ap (λ (b : Bool). cond b 1 0) is)) (omega arith)))
  | inr other ↦
      rw other
      (times_among (ring_blocks ring size) n (ring_block_times ring size n ∙ ap (λ (b : Bool). cond b 1 0) other))
]

-- A property of all ring blocks holds of each of them.

pub each_ring_block : (ring size : ℕ) (P : ℕ → Type 0) → EachRingBlock ring size P → (n : ℕ)
    → is_ring_block ring size n ≡ true → P n
each_ring_block ring size P each n is =
    let at = ring_block_at ring size n is in
    subst P (sym at.2) (each at.0 at.1)

pub each_slot_block : (ring size : ℕ) (P : ℕ → Type 0) → EachRingBlock ring size P → (slot : ℕ) → slot < size
    → P (ring + slot / 128)
each_slot_block ring size P each slot below = each (slot / 128) (slot_block size slot below)

pub each_first : (ring size : ℕ) (P : ℕ → Type 0) → 0 < size → EachRingBlock ring size P → P ring
each_first ring size P some each = subst P (omega arith) (each 0 (some_blocks size some))
