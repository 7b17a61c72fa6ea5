-- Lemmas about lending blocks and taking them back.
use Rattle.std.proofs.Common.{◌≡◌, ◌≢◌, ℕ, ◌/◌, ◌⊎◌, inl, inr, Some, None, List, refl, sym, ◌∙◌}
use Rattle.std.specs.Ordering.{nat_cmp}
use Rattle.std.specs.FinMap as map
use Rattle.std.proofs.lemmas.Bool.{cases_eq}
use Rattle.dma_arena.specs.Block.{IsBlock}
use Rattle.dma_arena.specs.Memory.{Memory, byte_at, IsWhole}
use Rattle.dma_arena.proofs.Bus.{get-insert_same, get-insert_other, get-remove_same, get-remove_other}

-- Lending or taking a block changes no byte of another block.
pub byte_at-insert_other : (m : Memory) (q : ℕ) (xs : List ℕ) (c : ℕ) → c / 2048 ≢ q
    → byte_at (map.insert m q xs) c ≡ byte_at m c
unfolding byte_at
byte_at-insert_other m q xs c ne = rw (get-insert_other m q xs (c / 2048) ne) refl

pub byte_at-remove_other : (m : Memory) (q c : ℕ) → c / 2048 ≢ q → byte_at (map.remove m q) c ≡ byte_at m c
unfolding byte_at
byte_at-remove_other m q c ne = rw (get-remove_other m q (c / 2048) ne) refl

-- Each lent block is still a valid block.

pub IsWhole-empty : IsWhole map.empty
IsWhole-empty = record {
  block = λ q xs h. let f : None ≡ Some xs = sym (map.get-empty {X = List ℕ} nat_cmp q) ∙ h in cc;
}

IsBlock-insert : (m : Memory) (q : ℕ) (xs : List ℕ) → IsWhole m → IsBlock (record { number = q; bytes = xs })
    → (r : ℕ) (ys : List ℕ) → (r ≡ q) ⊎ (r ≢ q) → map.get (map.insert m q xs) r ≡ Some ys
    → IsBlock (record { number = r; bytes = ys })
IsBlock-insert m q xs whole new r ys (inl e) h =
    let f : Some xs ≡ Some ys = sym (rw e (get-insert_same m q xs)) ∙ h in
    let g : xs ≡ ys = cc in
    rw (e, ← g) new
IsBlock-insert m q xs whole new r ys (inr ne) h = whole.block r ys (sym (get-insert_other m q xs r ne) ∙ h)

pub IsWhole-insert : (m : Memory) (q : ℕ) (xs : List ℕ)
    → IsWhole m → IsBlock (record { number = q; bytes = xs }) → IsWhole (map.insert m q xs)
IsWhole-insert m q xs whole new = record { block = λ r ys h. IsBlock-insert m q xs whole new r ys (cases_eq r q) h }

IsBlock-remove : (m : Memory) (q : ℕ) → IsWhole m → (r : ℕ) (ys : List ℕ) → (r ≡ q) ⊎ (r ≢ q)
    → map.get (map.remove m q) r ≡ Some ys → IsBlock (record { number = r; bytes = ys })
IsBlock-remove m q whole r ys (inl e) h = let f : None ≡ Some ys = sym (rw e (get-remove_same m q)) ∙ h in cc
IsBlock-remove m q whole r ys (inr ne) h = whole.block r ys (sym (get-remove_other m q r ne) ∙ h)

pub IsWhole-remove : (m : Memory) (q : ℕ) → IsWhole m → IsWhole (map.remove m q)
IsWhole-remove m q whole = record { block = λ r ys h. IsBlock-remove m q whole r ys (cases_eq r q) h }
