-- Lemmas about the lent memory that a table's slots represent, and about how this memory changes when one slot changes.
use Rattle.std.proofs.Common.{◌≡◌, ◌≢◌, ℕ, zero, suc, ◌+◌, ◌<◌, inl, inr, Option, Some, None, List, [], ◌∷◌, refl, sym, ap, ◌∙◌, arith, add-zero}
use Rattle.std.specs.Prelude.{option_map, is_some, IfSome}
use Rattle.std.specs.Ordering.{nat_cmp}
use Rattle.std.specs.Cmp.{nat_cmp_total}
use Rattle.std.specs.FinMap as fin
use Rattle.std.proofs.lemmas.Bool.{cases_eq}
use Rattle.dma_arena.specs.Block.{Block}
use Rattle.dma_arena.specs.Memory.{Memory, has_block, block_at}
use Rattle.dma_arena.specs.Shown.{shown_from, shown, at_place}
use Rattle.dma_arena.proofs.Single.{get-insert_same, get-insert_other, get-remove_same, get-remove_other}

abbrev bytes_of : Option Block → Option (List ℕ)
bytes_of place = option_map (λ b. b.bytes) place

-- The slots represent no number below the first slot's number.
get-shown_below : (n : ℕ) (s : List (Option Block)) (q : ℕ) → q < n → fin.get (shown_from n s) q ≡ None
unfolding shown_from
get-shown_below n [] q lt = fin.get-empty nat_cmp q
get-shown_below n (None ∷ s) q lt = get-shown_below (n + 1) s q (omega arith)
get-shown_below n (Some b ∷ s) q lt =
    get-insert_other (shown_from (n + 1) s) n b.bytes q (omega arith) ∙ get-shown_below (n + 1) s q (omega arith)

get-shown_from : (n : ℕ) (s : List (Option Block)) (q : ℕ) → fin.get (shown_from n s) (n + q) ≡ bytes_of (at_place s q)
unfolding shown_from
get-shown_from n [] q = fin.get-empty nat_cmp (n + q)
get-shown_from n (None ∷ s) zero = get-shown_below (n + 1) s (n + 0) (omega arith)
get-shown_from n (Some b ∷ s) zero = rw add-zero (get-insert_same (shown_from (n + 1) s) n b.bytes)
get-shown_from n (None ∷ s) (suc q) =
    let e : n + suc q ≡ (n + 1) + q = omega arith in
    rw e (get-shown_from (n + 1) s q)
get-shown_from n (Some b ∷ s) (suc q) =
    let e : n + suc q ≡ (n + 1) + q = omega arith in
    get-insert_other (shown_from (n + 1) s) n b.bytes (n + suc q) (omega arith) ∙ rw e (get-shown_from (n + 1) s q)

-- The bytes of each number are those of the block in the number's slot.
pub get-shown : (s : List (Option Block)) (q : ℕ) → fin.get (shown s) q ≡ bytes_of (at_place s q)
get-shown s q = let e : 0 + q ≡ q = omega arith in rw e at (get-shown_from 0 s q)

is_some-bytes_of : (o : Option Block) → is_some (bytes_of o) ≡ is_some o
is_some-bytes_of None = refl
is_some-bytes_of (Some b) = refl

pub has_block-shown : (s : List (Option Block)) (q : ℕ) → has_block (shown s) q ≡ is_some (at_place s q)
has_block-shown s q = ap is_some (get-shown s q) ∙ is_some-bytes_of (at_place s q)

block_of_bytes : (o : Option Block) (q : ℕ) → IfSome o (λ b. b.number ≡ q)
    → o ≡ option_map (λ bytes. record { number = q; bytes = bytes }) (bytes_of o)
block_of_bytes None q number = refl
block_of_bytes (Some b) q number =
    ap (λ n. Some (let block : Block = record { number = n; bytes = b.bytes } in block)) number

-- If the block in a number's slot has this number, it is the block that is lent under this number.
pub block_at-shown : (s : List (Option Block)) (q : ℕ) → IfSome (at_place s q) (λ b. b.number ≡ q)
    → at_place s q ≡ block_at (shown s) q
block_at-shown s q number = block_of_bytes (at_place s q) q number ∙ rw (get-shown s q) refl

-- The contents of the slots determine the memory.
pub shown-is : (s : List (Option Block)) (m : Memory) → ((q : ℕ) → bytes_of (at_place s q) ≡ fin.get m q) → shown s ≡ m
shown-is s m same =
    fin.same_map nat_cmp_total fin.nat_cmp-IsAntisymmetric (shown s) m (λ q. get-shown s q ∙ same q)

-- One slot changes.
pub shown-insert : (s t : List (Option Block)) (n : ℕ) (b : Block) → at_place t n ≡ Some b
    → ((q : ℕ) → q ≢ n → at_place t q ≡ at_place s q) → shown t ≡ fin.insert (shown s) n b.bytes
shown-insert s t n b here others =
    shown-is t (fin.insert (shown s) n b.bytes)
    (λ q. elim (cases_eq q n) [
      | inl e ↦ rw (e, here) (sym (get-insert_same (shown s) n b.bytes))
      | inr ne ↦ rw (others q ne) (sym (get-insert_other (shown s) n b.bytes q ne ∙ get-shown s q))
    ])

pub shown-remove : (s t : List (Option Block)) (n : ℕ) → at_place t n ≡ None
    → ((q : ℕ) → q ≢ n → at_place t q ≡ at_place s q) → shown t ≡ fin.remove (shown s) n
shown-remove s t n here others =
    shown-is t (fin.remove (shown s) n)
    (λ q. elim (cases_eq q n) [
      | inl e ↦ rw (e, here) (sym (get-remove_same (shown s) n))
      | inr ne ↦ rw (others q ne) (sym (get-remove_other (shown s) n q ne ∙ get-shown s q))
    ])
