-- Proves that the crate `hex` decodes a word to exactly the bytes that the word spells.
use Rattle.std.proofs.Common.{◌≢◌, ◌⊎◌, refl, sym, ◌∙◌, ap, ◌≡◌, ℕ, ◌+◌, ◌*◌, ◌%◌, ◌==◌, Bool, true, false, List, [], ◌∷◌, length, Option, Some, None, Result, Ok, Err, arith, cond, inl, inr}
use Rattle.std.proofs.lemmas.Bool.{eqb-true}
use Rattle.std.specs.Result.{result_ok}
use Rattle.hex.specs.Hex.{hex_digit_value, digit_or_error, decode_pairs, decode_of, ◌>>=◌}
use Rattle.hex.specs.declared.error.FromHexError.{FromHexError}
use Rattle.hex.specs.declared.error.FromHexError.TheVariants.{OddLength, OutOfMemory}
use Rattle.text_format.specs.HexData.{byte_of, onto, hex_bytes_of}

pair : (h l : Option ℕ) (high low i : ℕ) (r : Result (List ℕ) FromHexError)
    → result_ok ((digit_or_error high i h >>= λ a. digit_or_error low (i + 1) l >>= λ b. Ok (a * 16 + b)) >>= λ byte. r
    >>= λ bytes. Ok (byte ∷ bytes)) ≡ onto (byte_of h l) (result_ok r)
pair None l high low i r = refl
pair (Some a) None high low i r = refl
pair (Some a) (Some b) high low i (Ok bytes) = refl
pair (Some a) (Some b) high low i (Err e) = refl

result_ok-decode_pairs : (i : ℕ) (text : List ℕ) → result_ok (decode_pairs i text) ≡ hex_bytes_of text
unfolding decode_pairs hex_bytes_of
result_ok-decode_pairs i [] = refl
result_ok-decode_pairs i (digit ∷ []) = refl
result_ok-decode_pairs i (high ∷ low ∷ more) =
    pair (hex_digit_value high) (hex_digit_value low) high low i (decode_pairs (i + 2) more)
    ∙ ap (onto (byte_of (hex_digit_value high) (hex_digit_value low))) (result_ok-decode_pairs (i + 2) more)

onto-none : (byte : Option ℕ) → onto byte None ≡ None
onto-none None = refl
onto-none (Some byte) = refl

hex_bytes_of-odd : (text : List ℕ) → length text % 2 ≡ 1 → hex_bytes_of text ≡ None
unfolding hex_bytes_of
hex_bytes_of-odd [] odd = absurd (omega arith)
hex_bytes_of-odd (digit ∷ []) odd = refl
hex_bytes_of-odd (high ∷ low ∷ more) odd =
    let fewer : length more % 2 ≡ 1 = omega arith in
    ap (onto (byte_of (hex_digit_value high) (hex_digit_value low))) (hex_bytes_of-odd more fewer) ∙ onto-none _

by_parity : (text : List ℕ) (odd : Bool) → (length text % 2 == 1) ≡ odd
    → result_ok (cond odd (Err OddLength) (decode_pairs 0 text)) ≡ hex_bytes_of text
by_parity text true e = sym (hex_bytes_of-odd text (eqb-true _ _ e))
by_parity text false e = result_ok-decode_pairs 0 text

-- Apart from the kind of error, the crate `hex` returns the result of the definition.
result_ok-decode_of : (text : List ℕ) → result_ok (decode_of text) ≡ hex_bytes_of text
result_ok-decode_of text = by_parity text (length text % 2 == 1) refl

pub hex_bytes_of-decoded : (text bytes : List ℕ) → decode_of text ≡ Ok bytes → hex_bytes_of text ≡ Some bytes
hex_bytes_of-decoded text bytes decoded = sym (result_ok-decode_of text) ∙ ap result_ok decoded

pub hex_bytes_of-refused : (text : List ℕ) (error : FromHexError) → error ≢ OutOfMemory
    → (error ≡ OutOfMemory) ⊎ (decode_of text ≡ Err error) → hex_bytes_of text ≡ None
hex_bytes_of-refused text error other (inl memory) = absurd (other memory)
hex_bytes_of-refused text error other (inr refused) = sym (result_ok-decode_of text) ∙ ap result_ok refused
