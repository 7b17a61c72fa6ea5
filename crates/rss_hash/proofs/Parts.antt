-- Lemmas about adjacent parts of a list.
use Rattle.std.proofs.Common.{◌≡◌, ℕ, zero, suc, ◌+◌, ◌-◌, ◌≤◌, List, [], ◌∷◌, ◌++◌, slice_range, take, drop, refl, sym, ap, ◌∙◌, arith}
use Rattle.std.proofs.lemmas.List.{drop-drop}

take_none : (n : ℕ) → take n [] ≡ (let none : List ℕ = [] in none)
take_none zero = refl
take_none (suc n) = refl

take_join : (m n : ℕ) (bytes : List ℕ) → take m bytes ++ take n (drop m bytes) ≡ take (m + n) bytes
take_join zero n bytes = ap (λ k. take k bytes) (omega arith)
take_join (suc m) n [] = take_none n ∙ sym (take_none (suc m + n))
take_join (suc m) n (x ∷ bytes) =
    let longer : suc (m + n) ≡ suc m + n = omega arith in
    ap (λ rest. x ∷ rest) (take_join m n bytes) ∙ ap (λ k. take k (x ∷ bytes)) longer

pub joined_parts : (bytes : List ℕ) (i j k : ℕ) → i ≤ j → j ≤ k
    → slice_range bytes i j ++ slice_range bytes j k ≡ slice_range bytes i k
joined_parts bytes i j k low high =
    let middle : j ≡ i + (j - i) = omega arith in
    let whole : (j - i) + (k - j) ≡ k - i = omega arith in
    ap (λ rest. take (j - i) (drop i bytes) ++ take (k - j) rest) (ap (λ at. drop at bytes) middle
    ∙ sym (drop-drop (j - i) i bytes))
    ∙ take_join (j - i) (k - j) (drop i bytes)
    ∙ ap (λ n. take n (drop i bytes)) whole
