-- Lemmas about the words in a file's bytes, and about the bytes that store words.
use Rattle.std.proofs.Common.{◌≡◌, ℕ, zero, suc, ◌+◌, ◌*◌, ◌/◌, ◌%◌, ◌^◌, ◌<◌, List, [], ◌∷◌, length, get_or, drop, refl, sym, ap, ◌∙◌, arith}
use Rattle.std.proofs.lemmas.List.{same_lists, get_or_default}
use Rattle.byteorder.specs.Endian.{little_number, IsRead}
use Rattle.eeprom_image.specs.Bytes.{word_at, words_of, bytes_of}

pub length-words_of : (bytes : List ℕ) → length (words_of bytes) ≡ length bytes / 2
length-words_of [] = refl
length-words_of (low ∷ []) = refl
length-words_of (low ∷ high ∷ bytes) = let rest = length-words_of bytes in omega arith

pub length-bytes_of : (words : List ℕ) → length (bytes_of words) ≡ 2 * length words
length-bytes_of [] = refl
length-bytes_of (word ∷ words) = let rest = length-bytes_of words in omega arith

-- The bytes of the word at an index start at twice that index.
pub get_or-words_of : (bytes : List ℕ) (i d : ℕ) → i < length bytes / 2
    → get_or (words_of bytes) i d ≡ little_number 2 (drop (2 * i) bytes)
get_or-words_of [] i d h = absurd (omega arith)
get_or-words_of (low ∷ []) i d h = absurd (omega arith)
get_or-words_of (low ∷ high ∷ bytes) zero d h = omega arith
get_or-words_of (low ∷ high ∷ bytes) (suc i) d h =
    let twice : 2 * suc i ≡ suc (suc (2 * i)) = omega arith in
    get_or-words_of bytes i d (omega arith) ∙ ap (λ n. little_number 2 (drop n (low ∷ high ∷ bytes))) (sym twice)

-- Reading a file's words one at a time gives the words of the file.
pub words_of-from_read : (bytes words : List ℕ) → length bytes ≡ 2 * length words → IsRead little_number 2 bytes words
    → words ≡ words_of bytes
words_of-from_read bytes words whole read =
    let even : length words ≡ length bytes / 2 = omega arith in
    same_lists words (words_of bytes) (omega (arith, length-words_of bytes)) (λ k d h.
    get_or_default words k d 0 h ∙ read k h ∙ sym (get_or-words_of bytes k d (omega arith)))

-- Reading the bytes of a file returns the words that were written to it.
pub words_of-bytes_of : (words : List ℕ) → ((index : ℕ) → word_at words index < 2 ^ 16)
    → words_of (bytes_of words) ≡ words
words_of-bytes_of [] fits = refl
words_of-bytes_of (word ∷ words) fits =
    let small = fits 0 in
    let first : word % 256 + 256 * (word / 256 % 256) ≡ word = omega arith in
    let rest = words_of-bytes_of words (λ i. fits (suc i)) in
    cc

-- Writing the words that were read from a file gives the bytes of the file.
pub bytes_of-words_of : (bytes : List ℕ) → length bytes % 2 ≡ 0 → ((i : ℕ) → get_or bytes i 0 < 256)
    → bytes_of (words_of bytes) ≡ bytes
bytes_of-words_of [] even fits = refl
bytes_of-words_of (low ∷ []) even fits = absurd (omega arith)
bytes_of-words_of (low ∷ high ∷ bytes) even fits =
    let low_fits = fits 0 in
    let high_fits = fits 1 in
    let first : (low + 256 * high) % 256 ≡ low = omega arith in
    let second : (low + 256 * high) / 256 % 256 ≡ high = omega arith in
    let rest = bytes_of-words_of bytes (omega arith) (λ i. fits (suc (suc i))) in
    cc

-- Each word that is read from a file fits in 16 bits.
pub words_of-fit : (bytes : List ℕ) → ((i : ℕ) → get_or bytes i 0 < 256) → (index : ℕ)
    → word_at (words_of bytes) index < 2 ^ 16
words_of-fit [] fits index = omega arith
words_of-fit (low ∷ []) fits index = omega arith
words_of-fit (low ∷ high ∷ bytes) fits zero = omega (arith, fits 0, fits 1)
words_of-fit (low ∷ high ∷ bytes) fits (suc index) = words_of-fit bytes (λ i. fits (suc (suc i))) index
