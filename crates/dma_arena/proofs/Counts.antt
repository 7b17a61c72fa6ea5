-- Lemmas about the number of places that a block is in, as a sum over the kinds of places.
use Rattle.std.proofs.Common.{◌≡◌, ◌≢◌, ℕ, ◌+◌, Bool, true, false, cond, List, ◌∷◌, eqb, refl, ◌∙◌, arith}
use Rattle.std.specs.FinMap as map
use Rattle.std.proofs.lemmas.Bool.Decides.{nat_tests}
use Rattle.std.proofs.lemmas.List.Sums.{sum_by-cons}
use Rattle.dma_arena.specs.Memory.{Memory, has_block}
use Rattle.dma_arena.specs.Whereabouts.{times_in_hand}
use Rattle.dma_arena.proofs.Bus.{get-insert_same, get-insert_other, get-remove_same, get-remove_other}

-- Owned blocks.

same_number : (n : ℕ) → eqb n n ≡ true
same_number n = grind (arith, nat_tests)

other_number : (n k : ℕ) → k ≢ n → eqb n k ≡ false
other_number n k ne = grind (arith, nat_tests)

pub times_first : (hand : List ℕ) (n : ℕ) → times_in_hand (n ∷ hand) n ≡ 1 + times_in_hand hand n
times_first hand n = sum_by-cons (λ (x : ℕ). cond (eqb x n) 1 0) n hand ∙ rw (same_number n) refl

pub times_rest : (hand : List ℕ) (n k : ℕ) → k ≢ n → times_in_hand (n ∷ hand) k ≡ times_in_hand hand k
times_rest hand n k ne = sum_by-cons (λ (x : ℕ). cond (eqb x k) 1 0) n hand ∙ rw (other_number n k ne) (omega arith)

-- Lent blocks.

pub has_block-insert_same : (m : Memory) (n : ℕ) (xs : List ℕ) → has_block (map.insert m n xs) n ≡ true
has_block-insert_same m n xs = rw (get-insert_same m n xs) refl

pub has_block-insert_other : (m : Memory) (n : ℕ) (xs : List ℕ) (k : ℕ) → k ≢ n
    → has_block (map.insert m n xs) k ≡ has_block m k
has_block-insert_other m n xs k ne = rw (get-insert_other m n xs k ne) refl

pub has_block-remove_same : (m : Memory) (n : ℕ) → has_block (map.remove m n) n ≡ false
has_block-remove_same m n = rw (get-remove_same m n) refl

pub has_block-remove_other : (m : Memory) (n k : ℕ) → k ≢ n → has_block (map.remove m n) k ≡ has_block m k
has_block-remove_other m n k ne = rw (get-remove_other m n k ne) refl

-- The number of places that a block is in: the sum of the free, the owned and the lent places.
abbrev pub counted : Bool → ℕ → Bool → ℕ
counted free times lent = cond free 1 0 + times + cond lent 1 0

pub reported : (f g : Bool) (s t : ℕ) (l r : Bool) → f ≡ g → s ≡ t → l ≡ r → counted g t r ≡ 1 → counted f s l ≡ 1
reported f g s t l r p q h one = rw (p, q, h) one

-- An owned block is in no other place.
pub alone : (f l : Bool) (t : ℕ) → counted f (1 + t) l ≡ 1 → (f ≡ false) × (l ≡ false)
alone true l t one = absurd (omega arith)
alone false true t one = absurd (omega arith)
alone false false t one = (refl, refl)

pub freed : (f l : Bool) (t : ℕ) → counted f (1 + t) l ≡ 1 → counted true t l ≡ 1
freed f l t one = omega arith

pub sole : (f l : Bool) (t : ℕ) → counted f (1 + t) l ≡ 1 → counted false t true ≡ 1
sole f l t one = omega arith
