-- Lemmas about the numbers of Bufs, in order.
use Rattle.std.proofs.Common.{◌≡◌, ◌∙◌, ◌==◌, ◌&&◌, not, Bool, true, false, ℕ, zero, suc, ◌+◌, ◌<◌, List, [], ◌∷◌, length, drop, get_or, refl, sym, ap, arith}
use Rattle.std.proofs.lemmas.List.{drop_more}
use Rattle.pmd_access.specs.NicDevice.DmaArena.Block.{Block}
use Rattle.std.specs.List.{list_any}
use Rattle.pmd_access.specs.NicDevice.DmaArena.Numbers.{Numbers, is_own, is_free}
use Rattle.pmd_access.specs.Bufs.{numbers_of}
use Rattle.pmd_tx.specs.Sends.{are_out}

pub number-at : (bs : List Block) (k : ℕ) (b : Block) (d : ℕ) → k < length bs → b ≡ get_or bs k b
    → get_or (numbers_of bs) k d ≡ b.number
number-at [] k b d below at = absurd (omega arith)
number-at (c ∷ bs) zero b d below at = ap (λ (x : Block). x.number) (sym at)
number-at (c ∷ bs) (suc k) b d below at = number-at bs k b d (omega arith) at

pub count-numbers : (bs : List Block) → length (numbers_of bs) ≡ length bs
count-numbers [] = refl
count-numbers (b ∷ bs) = ap suc (count-numbers bs)

pub numbers-left : (bs : List Block) (k : ℕ) (b : Block) → k < length bs → b ≡ get_or bs k b
    → drop k (numbers_of bs) ≡ b.number ∷ drop (k + 1) (numbers_of bs)
numbers-left bs k b below at =
    drop_more (numbers_of bs) k 0 (omega (arith, below, count-numbers bs))
    ∙ ap (λ (n : ℕ). n ∷ drop (k + 1) (numbers_of bs)) (number-at bs k b 0 below at)

-- Whether blocks are out follows from the first block and the rest.

joined : (own free again rest : Bool)
    → (own && not free && not again && rest) ≡ ((own && not free && not again) && rest)
joined true false true rest = refl
joined true false false rest = refl
joined true true again rest = refl
joined false free again rest = refl

pub out-left : (a : Numbers) (bs : List Block) (k : ℕ) (b : Block) → k < length bs → b ≡ get_or bs k b → (t : Bool)
    → t ≡ (is_own a b.number && not (is_free a b.number)
    && not (list_any (λ n. b.number == n) (drop (k + 1) (numbers_of bs))))
    → are_out a (drop k (numbers_of bs)) ≡ (t && are_out a (drop (k + 1) (numbers_of bs)))
out-left a bs k b below at t is =
    let rest = drop (k + 1) (numbers_of bs) in
    ap (are_out a) (numbers-left bs k b below at)
    ∙ joined (is_own a b.number) (is_free a b.number) (list_any (λ n. b.number == n) rest) (are_out a rest)
    ∙ ap (λ (x : Bool). x && are_out a rest) (sym is)
