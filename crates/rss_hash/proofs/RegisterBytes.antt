-- Byte `n` of consecutive registers is byte `n mod 4` of register `n / 4`.
use Rattle.std.proofs.Common.{◌≡◌, ℕ, ◌+◌, ◌*◌, ◌/◌, ◌%◌, ◌<◌, List, [], ◌∷◌, length, take, slice_index, refl, sym, ap, ◌∙◌, arith}
use Rattle.std.specs.Int.{to_le_bytes, w32}
use Rattle.std.specs.List.{flat_map}
use Rattle.std.proofs.lemmas.List.{length-append, length-take-le}
use Rattle.std.proofs.lemmas.List.Concat.{get_or-flat_map}
use Rattle.rss_hash.specs.Registers.{bytes_of_registers}

pub length-bytes_of_registers : (words : List ℕ) → length (bytes_of_registers words) ≡ 4 * length words
unfolding bytes_of_registers
length-bytes_of_registers [] = refl
length-bytes_of_registers (w ∷ words) =
    omega (arith, length-append (to_le_bytes w32 w) (bytes_of_registers words), length-bytes_of_registers words)

pub register_byte_at : (words : List ℕ) (n : ℕ) → n < 4 * length words
    → slice_index (bytes_of_registers words) n ≡ slice_index (to_le_bytes w32 (slice_index words (n / 4))) (n % 4)
unfolding bytes_of_registers
register_byte_at words n within =
    let before : length (flat_map (to_le_bytes w32) (take (n / 4) words)) + n % 4 ≡ n =
    omega (arith, length-bytes_of_registers (take (n / 4) words), length-take-le (n / 4) words (omega arith)) in
    ap (λ m. slice_index (flat_map (to_le_bytes w32) words) m) (sym before)
    ∙ get_or-flat_map (to_le_bytes w32) words (n / 4) (n % 4) 0 0 (omega arith) (omega arith)
