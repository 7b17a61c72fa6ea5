-- Lemmas about the places that contain a packet's Bufs.
use Rattle.std.proofs.Common.{◌≡◌, ℕ, zero, suc, ◌+◌, ◌<◌, ◌≤◌, List, [], ◌∷◌, ◌++◌, length, get_or, set, drop, take, ◌-◌, Option, Some, None, refl, subst, sym, ap, ◌∙◌, arith}
use Rattle.std.proofs.lemmas.List.{length_push}
use Rattle.device_lock.specs.NicDevice.DmaArena.Block.{Block}
use Rattle.pmd_access.specs.Bufs.{blocks_in, StandFirst}

pub stand_count : (n : ℕ) (places : List (Option Block)) → StandFirst n places → length (blocks_in places) ≡ n
stand_count zero places is = ap length is
stand_count (suc n) [] is = absurd is
stand_count (suc n) (None ∷ places) is = absurd is
stand_count (suc n) (Some b ∷ places) is = ap suc (stand_count n places is)

pub stand_few : (n : ℕ) (places : List (Option Block)) → StandFirst n places → n ≤ length places
stand_few zero places is = omega arith
stand_few (suc n) [] is = absurd is
stand_few (suc n) (None ∷ places) is = absurd is
stand_few (suc n) (Some b ∷ places) is = let e = stand_few n places is in omega (arith, e)

pub stand_at : (n : ℕ) (places : List (Option Block)) (k : ℕ) (d : Option Block) (b : Block) → StandFirst n places
    → k < n → get_or places k d ≡ Some (get_or (blocks_in places) k b)
stand_at zero places k d b is below = absurd (omega (arith, below))
stand_at (suc n) [] k d b is below = absurd is
stand_at (suc n) (None ∷ places) k d b is below = absurd is
stand_at (suc n) (Some c ∷ places) zero d b is below = refl
stand_at (suc n) (Some c ∷ places) (suc k) d b is below = stand_at n places k d b is (omega (arith, below))

alone_is : (places : List (Option Block)) (b : Block) → blocks_in places ≡ [] → 0 < length places
    → blocks_in (set places 0 (Some b)) ≡ b ∷ []
alone_is [] b is room = absurd (omega (arith, room))
alone_is (None ∷ places) b is room = ap (λ (bs : List Block). b ∷ bs) is
alone_is (Some c ∷ places) b is room = cc

pub blocks_more : (n : ℕ) (places : List (Option Block)) (b : Block) → StandFirst n places → n < length places
    → blocks_in (set places n (Some b)) ≡ blocks_in places ++ b ∷ []
blocks_more zero places b is room = alone_is places b is room ∙ ap (λ (bs : List Block). bs ++ b ∷ []) (sym is)
blocks_more (suc n) [] b is room = absurd is
blocks_more (suc n) (None ∷ places) b is room = absurd is
blocks_more (suc n) (Some c ∷ places) b is room =
    ap (λ (bs : List Block). c ∷ bs) (blocks_more n places b is (omega (arith, room)))

-- An additional empty place at the end doesn't change the list of blocks.
pub blocks_same : (places : List (Option Block)) → blocks_in (places ++ None ∷ []) ≡ blocks_in places
blocks_same [] = refl
blocks_same (None ∷ places) = blocks_same places
blocks_same (Some b ∷ places) = ap (λ (bs : List Block). b ∷ bs) (blocks_same places)

pub stand_same : (n : ℕ) (places : List (Option Block)) → StandFirst n places → StandFirst n (places ++ None ∷ [])
stand_same zero places is = blocks_same places ∙ is
stand_same (suc n) [] is = absurd is
stand_same (suc n) (None ∷ places) is = absurd is
stand_same (suc n) (Some b ∷ places) is = stand_same n places is

-- Removing the first block moves the others up.

pub rest_of : (n : ℕ) (places : List (Option Block)) (first : Block) (d : Option Block) → StandFirst n places
    → 0 < length places → get_or places 0 d ≡ Some first
    → (StandFirst (n - 1) (drop 1 (set places 0 None) ++ take 1 (set places 0 None)))
    × (blocks_in places ≡ first ∷ blocks_in (drop 1 (set places 0 None) ++ take 1 (set places 0 None)))
rest_of n [] first d is some there = absurd (omega (arith, some))
rest_of n (None ∷ places) first d is some there = cc
rest_of zero (Some b ∷ places) first d is some there = cc
rest_of (suc n) (Some b ∷ places) first d is some there =
    let same : b ≡ first = cc in (
      subst (λ (m : ℕ). StandFirst m (places ++ None ∷ [])) (let e : n ≡ suc n - 1 = omega arith in e)
          (stand_same n places is),
      ap (λ (x : Block). x ∷ blocks_in places) same
          ∙ ap (λ (bs : List Block). first ∷ bs) (sym (blocks_same places)),
    )

pub rotated_length : {A : Type 0} (xs : List A) → length xs ≡ 5 → length (drop 1 xs ++ take 1 xs) ≡ 5
rotated_length [] five = five
rotated_length (x ∷ xs) five = length_push xs x ∙ (let e : length xs + 1 ≡ 5 = omega (arith, five) in e)
