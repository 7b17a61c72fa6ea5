-- Lemmas about cutting bytes into numbers.
use Rattle.std.proofs.Common.{◌≡◌, ◌<◌, ◌≤◌, ℕ, zero, suc, ◌+◌, List, [], ◌∷◌, ◌++◌, length, drop, slice_index, get_or}
use Rattle.std.proofs.Common.{refl, sym, ap, ◌∙◌, arith, append_assoc, lit<}
use Rattle.std.proofs.Math.Seq.{drop-cons}
use Rattle.std.proofs.lemmas.List.{get_or-drop}
use Rattle.std.proofs.lemmas.Nat.{le_bytes_2, le_bytes_4}
use Rattle.std.specs.Int.{w16, w32, to_le_bytes}
use Rattle.program.specs.Bytes.{number16_at, number32_at, bytes_of_fields, fields_in}

-- Each element is a byte.
abbrev pub Small : List ℕ → Type 0
Small bytes = (k : ℕ) → slice_index bytes k < 256

pub Small-drop : (n : ℕ) (bytes : List ℕ) → Small bytes → Small (drop n bytes)
Small-drop n bytes small k = omega (arith, get_or-drop n bytes k 0, small (n + k))

two_small : (x y : ℕ) → x < 256 → y < 256 → (k : ℕ) → get_or (x ∷ y ∷ []) k 0 < 256
two_small x y p q zero = p
two_small x y p q (suc zero) = q
two_small x y p q (suc (suc k)) = lit< tt

four_small : (x y z w : ℕ) → x < 256 → y < 256 → z < 256 → w < 256 → (k : ℕ) → get_or (x ∷ y ∷ z ∷ w ∷ []) k 0 < 256
four_small x y z w p q r s zero = p
four_small x y z w p q r s (suc zero) = q
four_small x y z w p q r s (suc (suc zero)) = r
four_small x y z w p q r s (suc (suc (suc zero))) = s
four_small x y z w p q r s (suc (suc (suc (suc k)))) = lit< tt

pub bytes16 : (bytes : List ℕ) (at : ℕ) → Small bytes →
    to_le_bytes w16 (number16_at bytes at) ≡ slice_index bytes at ∷ slice_index bytes (at + 1) ∷ []
bytes16 bytes at small =
    le_bytes_2 (slice_index bytes at ∷ slice_index bytes (at + 1) ∷ []) _ refl
    (two_small _ _ (small at) (small (at + 1))) refl

bytes32 : (bytes : List ℕ) (at : ℕ) → Small bytes →
    to_le_bytes w32 (number32_at bytes at)
    ≡ slice_index bytes at ∷ slice_index bytes (at + 1) ∷ slice_index bytes (at + 2) ∷ slice_index bytes (at + 3) ∷ []
bytes32 bytes at small =
    le_bytes_4 (slice_index bytes at ∷ slice_index bytes (at + 1) ∷ slice_index bytes (at + 2) ∷ slice_index bytes (at
    + 3) ∷ []) _ refl
    (four_small _ _ _ _ (small at) (small (at + 1)) (small (at + 2)) (small (at + 3))) refl

drop-one : (bytes : List ℕ) (at next : ℕ) → next ≡ suc at → at < length bytes
    → drop at bytes ≡ slice_index bytes at ∷ drop next bytes
drop-one bytes at next is inside = rw is (drop-cons bytes at 0 inside)

pub piece16 : (bytes : List ℕ) (at after : ℕ) → Small bytes → after ≡ at + 2 → after ≤ length bytes →
    drop at bytes ≡ to_le_bytes w16 (number16_at bytes at) ++ drop after bytes
piece16 bytes at after small is inside =
    let first = drop-one bytes at (at + 1) (omega arith) (omega arith) in
    let second = drop-one bytes (at + 1) after (omega arith) (omega arith) in
    first ∙ ap (λ more. slice_index bytes at ∷ more) second
    ∙ ap (λ front. front ++ drop after bytes) (sym (bytes16 bytes at small))

pub piece32 : (bytes : List ℕ) (at after : ℕ) → Small bytes → after ≡ at + 4 → after ≤ length bytes →
    drop at bytes ≡ to_le_bytes w32 (number32_at bytes at) ++ drop after bytes
piece32 bytes at after small is inside =
    let first = drop-one bytes at (at + 1) (omega arith) (omega arith) in
    let second = drop-one bytes (at + 1) (at + 2) (omega arith) (omega arith) in
    let third = drop-one bytes (at + 2) (at + 3) (omega arith) (omega arith) in
    let fourth = drop-one bytes (at + 3) after (omega arith) (omega arith) in
    first ∙ ap (λ more. slice_index bytes at ∷ more) (second ∙ ap (λ more. slice_index bytes (at + 1) ∷ more)
    (third ∙ ap (λ more. slice_index bytes (at + 2) ∷ more) fourth))
    ∙ ap (λ front. front ++ drop after bytes) (sym (bytes32 bytes at small))

-- Appending bytes to four parts that follow each other.
four_parts : (a b c d more : List ℕ) → (a ++ b ++ c ++ d) ++ more ≡ a ++ (b ++ (c ++ (d ++ more)))
four_parts a b c d more = simp append_assoc

pub fields_spelled : (bytes : List ℕ) → Small bytes → 12 ≤ length bytes
    → bytes ≡ bytes_of_fields (fields_in bytes) ++ drop 12 bytes
fields_spelled bytes small inside =
    let kind = drop-one bytes 0 1 refl (omega arith)
    ∙ ap (λ more. slice_index bytes 0 ∷ more) (drop-one bytes 1 2 refl (omega arith)) in
    let x = piece16 bytes 2 4 small refl (omega arith) in
    let a = piece32 bytes 4 8 small refl (omega arith) in
    let b = piece32 bytes 8 12 small refl inside in
    let first = slice_index bytes 0 ∷ slice_index bytes 1 ∷ [] in
    let xs = to_le_bytes w16 (number16_at bytes 2) in
    let firsts = to_le_bytes w32 (number32_at bytes 4) in
    let seconds = to_le_bytes w32 (number32_at bytes 8) in
    kind ∙ ap (λ more. first ++ more) (x ∙ ap (λ more. xs ++ more) (a ∙ ap (λ more. firsts ++ more) b))
    ∙ sym (four_parts first xs firsts seconds (drop 12 bytes))
