-- Lemmas about bytes that are printed as hex text.
use Rattle.std.proofs.Common.{refl, ap, ◌≡◌, ℕ, List, [], ◌∷◌, ◌++◌, ◌*◌, length, ◌/◌, ◌%◌, ◌<◌, Bool, true, ◌&&◌, ltb, slice_index}
use Rattle.std.specs.Str.{IsUtf8, IsAscii}
use Rattle.std.proofs.lemmas.Bool.Decides.{Decides-by_and, Decides-ltb}
use Rattle.std.proofs.lemmas.Str.{IsUtf8-from_ascii}
use Rattle.std.proofs.lemmas.Str.Ascii.{IsAscii-from_all}
use Rattle.hex.specs.Hex.{encode_with, lower_digits}
use Rattle.hex.proofs.HexLemmas.{IsAscii-encode_with, length-encode_with}
use Rattle.text_format.specs.Bytes.{bytes_text}

encode_with-append : (t xs ys : List ℕ) → encode_with t (xs ++ ys) ≡ encode_with t xs ++ encode_with t ys
unfolding encode_with
encode_with-append t [] ys = refl
encode_with-append t (x ∷ xs) ys =
    ap (λ more. slice_index t (x / 16) ∷ slice_index t (x % 16) ∷ more) (encode_with-append t xs ys)

-- The text of two lists of bytes, joined, is the texts of both lists, joined.
pub bytes_text-append : (xs ys : List ℕ) → bytes_text (xs ++ ys) ≡ bytes_text xs ++ bytes_text ys
bytes_text-append xs ys = encode_with-append lower_digits xs ys

-- The text has two digits for each byte.
pub length-bytes_text : (xs : List ℕ) → length (bytes_text xs) ≡ 2 * length xs
length-bytes_text xs = length-encode_with lower_digits xs

pub bytes_text-nil : bytes_text [] ≡ []
unfolding encode_with
bytes_text-nil = refl

are_ascii : List ℕ → Bool
are_ascii [] = true
are_ascii (b ∷ bs) = ltb b 128 && are_ascii bs

IsAscii-digits : IsAscii lower_digits
unfolding are_ascii
IsAscii-digits =
    IsAscii-from_all lower_digits ((Decides-by_and (λ b. ltb b 128) (λ b. b < 128) are_ascii (λ b. Decides-ltb b 128)
    refl (λ _ _. refl) lower_digits).0 refl)

pub bytes_text-utf8 : (xs : List ℕ) → IsUtf8 (bytes_text xs)
bytes_text-utf8 xs = IsUtf8-from_ascii (bytes_text xs) (IsAscii-encode_with lower_digits xs IsAscii-digits)
