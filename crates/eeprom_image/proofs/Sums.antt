-- Lemmas about a running sum over part of a list.
use Rattle.std.proofs.Common.{◌≡◌, ℕ, ◌+◌, ◌-◌, ◌<◌, ◌≤◌, List, length, get_or, take, drop, sum, sym, ap, ◌∙◌, arith, length-drop, get_or-drop}
use Rattle.std.proofs.lemmas.List.Sums.{sum_by_more}

pub sum-part_more : (words : List ℕ) (first i x : ℕ) → first ≤ i → i < length words → x ≡ get_or words i 65535
    → sum (take (i + 1 - first) (drop first words)) ≡ sum (take (i - first) (drop first words)) + x
sum-part_more words first i x low high here =
    let next : i + 1 - first ≡ i - first + 1 = omega arith in
    let place : first + (i - first) ≡ i = omega arith in
    let inside : i - first < length (drop first words) = omega (arith, length-drop first words) in
    ap (λ n. sum (take n (drop first words))) next
    ∙ sum_by_more (λ x. x) (drop first words) (i - first) 65535 inside
    ∙ ap (λ n. sum (take (i - first) (drop first words)) + n) (get_or-drop first words (i - first) 65535
    ∙ ap (λ n. get_or words n 65535) place ∙ sym here)
