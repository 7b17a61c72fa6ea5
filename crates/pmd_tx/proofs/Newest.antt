-- Lemmas about the parts of the newest packet.
use Rattle.std.proofs.Common.{◌≡◌, ℕ, zero, suc, ◌+◌, ◌-◌, ◌*◌, ◌<◌, ◌≤◌, List, [], ◌∷◌, ◌++◌, length, take, drop, get_or, refl, sym, ap, ◌∙◌, arith}
use Rattle.std.proofs.lemmas.List.{length-append, length-drop, drop-drop, get_or-drop, get_or-append-add, take_all, append-nil}
use Rattle.pmd_access.specs.Packet.{Kept}
use Rattle.pmd_tx.specs.Sending.{Part, no_segment, parts_for, parts_in, parts_of}
use Rattle.pmd_tx.specs.Shown.{all_parts, latest, newest_part, newest_parts}

length-parts : (whole n : ℕ) (bytes : List ℕ) → length (parts_in whole n bytes) ≡ n
length-parts whole zero bytes = refl
length-parts whole (suc zero) bytes = refl
length-parts whole (suc (suc n)) bytes = ap suc (length-parts whole (suc n) (drop 2048 bytes))

-- The bytes of a part.
part-bytes : (whole n : ℕ) (bytes : List ℕ) (i : ℕ) → i < n → length bytes ≤ 2048 * n
    → (get_or (parts_in whole n bytes) i no_segment.part).bytes ≡ take 2048 (drop (2048 * i) bytes)
part-bytes whole zero bytes i below fits = absurd (omega arith)
part-bytes whole (suc zero) bytes zero below fits = sym (take_all 2048 bytes (omega arith))
part-bytes whole (suc zero) bytes (suc i) below fits = absurd (omega arith)
part-bytes whole (suc (suc n)) bytes zero below fits = refl
part-bytes whole (suc (suc n)) bytes (suc i) below fits =
    let at : 2048 * i + 2048 ≡ 2048 * suc i = omega arith in
    part-bytes whole (suc n) (drop 2048 bytes) i (omega arith) (omega (arith, length-drop 2048 bytes))
    ∙ ap (λ (l : List ℕ). take 2048 l) (drop-drop (2048 * i) 2048 bytes)
    ∙ ap (λ (k : ℕ). take 2048 (drop k bytes)) (let e : 2048 + 2048 * i ≡ 2048 * suc i = omega arith in e)

-- The latest parts belong to the newest packet.
newest-at : (ks : List Kept) (left : ℕ) → 0 < left → left ≤ newest_parts ks
    → (left ≤ length (all_parts ks))
    × ((get_or (all_parts ks) (length (all_parts ks) - left) no_segment.part).bytes ≡ newest_part ks left)
newest-at [] left some few = absurd (omega arith)
newest-at (k ∷ []) left some few =
    let n = parts_for (length k.bytes) in
    let ps = parts_of k.bytes in
    let count : length (ps ++ []) ≡ n =
    omega (arith, length-append ps [], length-parts (length k.bytes) n k.bytes) in (
      omega (arith, count),
      ap (λ (i : ℕ). (get_or (ps ++ []) (i - left) no_segment.part).bytes) count
          ∙ ap (λ (l : List Part). (get_or l (n - left) no_segment.part).bytes) (append-nil ps)
          ∙ part-bytes (length k.bytes) n k.bytes (n - left) (omega arith) (omega arith),
    )
newest-at (k ∷ l ∷ ks) left some few =
    let rest = newest-at (l ∷ ks) left some few in
    let ps = parts_of k.bytes in
    let qs = all_parts (l ∷ ks) in
    let count = length-append ps qs in
    let at : length (ps ++ qs) - left ≡ length ps + (length qs - left) = omega (arith, count, rest.0) in (
      omega (arith, count, rest.0),
      ap (λ (i : ℕ). (get_or (ps ++ qs) i no_segment.part).bytes) at
          ∙ ap (λ (q : Part). q.bytes) (get_or-append-add ps qs (length qs - left) no_segment.part)
          ∙ rest.1,
    )

pub latest-newest : (ks : List Kept) (count left : ℕ) → 0 < left → left ≤ newest_parts ks → left ≤ count
    → count ≤ length (all_parts ks)
    → (get_or (latest count ks) (count - left) no_segment.part).bytes ≡ newest_part ks left
latest-newest ks count left some few low known =
    let all = all_parts ks in
    let at : (length all - count) + (count - left) ≡ length all - left = omega arith in
    ap (λ (q : Part). q.bytes) (get_or-drop (length all - count) all (count - left) no_segment.part)
    ∙ ap (λ (i : ℕ). (get_or all i no_segment.part).bytes) at ∙ (newest-at ks left some few).1

-- The newest packet's parts, given the last record.
pub newest-last : (ks : List Kept) (left : ℕ) (d : Kept) → 0 < length ks
    → newest_part ks left
    ≡ take 2048 (drop (2048 * (parts_for (length (get_or ks (length ks - 1) d).bytes) - left))
    (get_or ks (length ks - 1) d).bytes)
newest-last [] left d some = absurd (omega arith)
newest-last (k ∷ []) left d some = refl
newest-last (k ∷ l ∷ ks) left d some =
    let e : length (l ∷ ks) - 1 ≡ length ks = omega arith in
    let f : length (k ∷ l ∷ ks) - 1 ≡ suc (length ks) = omega arith in
    newest-last (l ∷ ks) left d (omega arith)
    ∙ ap (λ (i : ℕ). take 2048 (drop (2048 * (parts_for (length (get_or (l ∷ ks) i d).bytes) - left))
    (get_or (l ∷ ks) i d).bytes)) e
    ∙ ap (λ (i : ℕ). take 2048 (drop (2048 * (parts_for (length (get_or (k ∷ l ∷ ks) i d).bytes) - left))
    (get_or (k ∷ l ∷ ks) i d).bytes)) (sym f)

pub newest-count : (ks : List Kept) (d : Kept) → 0 < length ks
    → newest_parts ks ≡ parts_for (length (get_or ks (length ks - 1) d).bytes)
newest-count [] d some = absurd (omega arith)
newest-count (k ∷ []) d some = refl
newest-count (k ∷ l ∷ ks) d some =
    let e : length (l ∷ ks) - 1 ≡ length ks = omega arith in
    let f : length (k ∷ l ∷ ks) - 1 ≡ suc (length ks) = omega arith in
    newest-count (l ∷ ks) d (omega arith)
    ∙ ap (λ (i : ℕ). parts_for (length (get_or (l ∷ ks) i d).bytes)) e
    ∙ ap (λ (i : ℕ). parts_for (length (get_or (k ∷ l ∷ ks) i d).bytes)) (sym f)

pub newest-some : (ks : List Kept) → 0 < newest_parts ks → 0 < length ks
newest-some [] some = some
newest-some (k ∷ ks) some = omega arith
