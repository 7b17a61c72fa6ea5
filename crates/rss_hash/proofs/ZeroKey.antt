-- All entries in the tables of a zero key are 0.
use Rattle.std.proofs.Common.{◌≡◌, ℕ, zero, suc, ◌+◌, ◌*◌, ◌/◌, ◌%◌, ◌-◌, List, [], ◌∷◌, map, fold, replicate}
use Rattle.std.proofs.Common.{slice_index, bit_xor, refl, sym, ap, ◌∙◌, arith}
use Rattle.std.specs.Int.{bit_at}
use Rattle.std.specs.Int.Bits.{xor_zero_l}
use Rattle.std.proofs.lemmas.Nat.Bits.{bit_at-zero}
use Rattle.std.proofs.lemmas.List.{length-replicate, get_or-replicate}
use Rattle.rss_hash.specs.Bits.{bit_of, half_bits, bits_from, window}
use Rattle.rss_hash.specs.Registers.{bytes_of_registers}
use Rattle.rss_hash.specs.Tables.{half_share, AreItsWindows}
use Rattle.rss_hash.specs.Toeplitz.{xor_of}
use Rattle.rss_hash.proofs.HashLaws.{slice_index-zeros}
use Rattle.rss_hash.proofs.Sliding.{no_bits}
use Rattle.rss_hash.proofs.Windows.{bits_from_more}

bit_of-zeros : (count k : ℕ) → bit_of (replicate count 0) k ≡ 0
bit_of-zeros count k =
    ap (λ byte. bit_at byte (7 - k % 8)) (slice_index-zeros count (k / 8)) ∙ bit_at-zero (7 - k % 8)

bits_from-zeros : (count k n : ℕ) → bits_from (replicate count 0) k n ≡ 0
bits_from-zeros count k zero = no_bits (replicate count 0) k
bits_from-zeros count k (suc n) =
    let next : suc n ≡ n + 1 = omega arith in
    let last = bits_from_more (replicate count 0) k n in
    rw next (omega (arith, last, bits_from-zeros count k n, bit_of-zeros count (k + n)))

xor_of_zeros : (f : ℕ → ℕ) → ((j : ℕ) → f j ≡ 0) → (js : List ℕ) → xor_of (map f js) ≡ 0
xor_of_zeros f zeros [] = refl
xor_of_zeros f zeros (j ∷ js) =
    ap (λ n. fold bit_xor (bit_xor 0 n) (map f js)) (zeros j)
    ∙ ap (λ n. fold bit_xor n (map f js)) (xor_zero_l 0)
    ∙ xor_of_zeros f zeros js

half_share-zeros : (count k v : ℕ) → half_share (replicate count 0) k v ≡ 0
unfolding half_share
half_share-zeros count k v =
    xor_of_zeros (λ j. window (replicate count 0) (4 * k + j)) (λ j. bits_from-zeros count (4 * k + j) 32) (half_bits v)

bytes_of_registers-zeros : bytes_of_registers (replicate 10 0) ≡ replicate 40 0
unfolding bytes_of_registers
bytes_of_registers-zeros = refl

pub windows_of_zeros : AreItsWindows (replicate 72 (replicate 16 0)) (replicate 10 0)
windows_of_zeros =
    let row : List ℕ = replicate 16 0 in
    record {
      whole = length-replicate 72 row;
      entry = λ k v below small.
          ap (λ row. slice_index row v) (get_or-replicate 72 k row [] below)
          ∙ slice_index-zeros 16 v
          ∙ sym (ap (λ key. half_share key k v) bytes_of_registers-zeros ∙ half_share-zeros 40 k v);
    }
