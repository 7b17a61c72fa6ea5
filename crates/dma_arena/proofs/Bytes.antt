use Rattle.std.proofs.Common.{◌≡◌, ℕ, suc, ◌+◌, ◌<◌, ◌≤◌, ◌⊎◌, inl, inr, List, [], ◌∷◌, ◌++◌, length, take, drop, set, refl, ◌∙◌, arith, append_assoc}
use Rattle.std.proofs.lemmas.Grind.{common_steps}
use Rattle.std.proofs.lemmas.List.{take_more_set, drop-set-lt, length-set, take_at, drop_at, length-take-le, length-drop, length-append, drop-take, take-set-le}
use Rattle.dma_arena.specs.Memory.{put_bytes, part}

-- Putting bytes into a block, one at a time.

pub put_bytes-none : (xs : List ℕ) (at : ℕ) → put_bytes xs at [] ≡ xs
unfolding put_bytes
put_bytes-none xs at = grind (arith, common_steps)

pub put_bytes-more : (xs : List ℕ) (at b : ℕ) (bs : List ℕ) → at < length xs
    → put_bytes (set xs at b) (at + 1) bs ≡ put_bytes xs at (b ∷ bs)
unfolding put_bytes
put_bytes-more xs at b bs lt =
    let past : at < (at + 1) + length bs = omega arith in
    let end : (at + 1) + length bs ≡ at + suc (length bs) = omega arith in
    rw (
      take_more_set xs at b lt,
      drop-set-lt ((at + 1) + length bs) xs at b past,
      end,
      append_assoc (take at xs) (b ∷ []) bs,
    ) refl

pub length-put_bytes : (xs : List ℕ) (at : ℕ) (bs : List ℕ) → at + length bs ≤ length xs
    → length (put_bytes xs at bs) ≡ length xs
unfolding put_bytes
length-put_bytes xs at bs room =
    let rest : List ℕ = drop (at + length bs) xs in
    omega (
      arith,
      length-append (take at xs ++ bs) rest,
      length-append (take at xs) bs,
      length-drop (at + length bs) xs,
      length-take-le at xs (omega arith),
    )

-- After bytes are put into a block, the block contains them at their index.
pub part-put_bytes_same : (xs : List ℕ) (at : ℕ) (bs : List ℕ) → at ≤ length xs
    → part (put_bytes xs at bs) at (length bs) ≡ bs
unfolding part put_bytes
part-put_bytes_same xs at bs room =
    let rest : List ℕ = drop (at + length bs) xs in
    rw (append_assoc (take at xs) bs rest, drop_at (take at xs) (bs ++ rest) at (length-take-le at xs room))
    (take_at bs rest (length bs) refl)

part-set_other : (xs : List ℕ) (at b from n : ℕ) → (from + n ≤ at) ⊎ (at < from)
    → part (set xs at b) from n ≡ part xs from n
unfolding part
part-set_other xs at b from n (inl h) =
    rw (← drop-take from n (set xs at b), ← drop-take from n xs, take-set-le (from + n) xs at b h) refl
part-set_other xs at b from n (inr h) = rw (drop-set-lt from xs at b h) refl

apart_first : (from n at k : ℕ) → (from + n ≤ at) ⊎ (at + suc k ≤ from) → (from + n ≤ at) ⊎ (at < from)
apart_first from n at k (inl h) = inl h
apart_first from n at k (inr h) = inr (omega arith)

apart_rest : (from n at k : ℕ) → (from + n ≤ at) ⊎ (at + suc k ≤ from) → (from + n ≤ at + 1) ⊎ ((at + 1) + k ≤ from)
apart_rest from n at k (inl h) = inl (omega arith)
apart_rest from n at k (inr h) = inr (omega arith)

-- The other bytes are unchanged.
pub part-put_bytes_other : (xs : List ℕ) (at : ℕ) (bs : List ℕ) (from n : ℕ) → at + length bs ≤ length xs
    → (from + n ≤ at) ⊎ (at + length bs ≤ from)
    → part (put_bytes xs at bs) from n ≡ part xs from n
part-put_bytes_other xs at [] from n room o = rw (put_bytes-none xs at) refl
part-put_bytes_other xs at (b ∷ bs) from n room o =
    let lt : at < length xs = omega arith in
    let room_left : (at + 1) + length bs ≤ length (set xs at b) = omega (arith, length-set xs at b) in
    rw (← put_bytes-more xs at b bs lt)
    (part-put_bytes_other (set xs at b) (at + 1) bs from n room_left (apart_rest from n at (length bs) o))
    ∙ part-set_other xs at b from n (apart_first from n at (length bs) o)
