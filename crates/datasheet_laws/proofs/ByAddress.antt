-- Registers by their addresses.
use Rattle.std.proofs.Common.{◌≡◌, ℕ, ◌<◌, ◌==◌, ap, ◌∙◌, arith}
use Rattle.std.specs.Prelude.{bit_and, min}
use Rattle.std.proofs.lemmas.Nat.Bits.{bit_at_and, bit_at_ones, bit_at-lt}
use Rattle.datasheet_laws.specs.NumberPrelude.{Registers, RowId, Surroundings, after_read, bit_at, has_bit, read_word, row_of}
use Rattle.datasheet_laws.specs.NumberPrelude.{word_of, written}
use Rattle.datasheet_laws.specs.ByAddress.{held, given, left, wrote, word, reads, read_at, write_at}
use Rattle.datasheet_laws.specs.Table.{line_of, whole}
use Rattle.datasheet_laws.proofs.Table.{at, listed}

least : (n : ℕ) → n < 2 → min n 1 ≡ n
least n small = omega arith

-- A bit of a word, at an address that shows all bits.
pub has_bit-shown : (w bit : ℕ) → bit < 32 → has_bit bit (bit_and w whole) ≡ has_bit bit w
has_bit-shown w bit low =
    ap (λ n. n == 1) (bit_at_and w whole bit ∙ ap (λ n. min (bit_at w bit) n) (bit_at_ones 32 bit low)
    ∙ least (bit_at w bit) (bit_at-lt w bit))

-- The word at a register's first address, the value that a read of it returns, and the registers after accesses.
module _ (r : Registers) (row : RowId) (i : ℕ) (inside : i < (line_of row).count) where
  pub word-at : word r ((line_of row).address i) ≡ word_of r row i
  word-at = ap (held r) ((listed row).met i inside)

  pub reads-at : (around : Surroundings) (bit : ℕ) → bit < 32
      → reads around r ((line_of row).address i) bit
      ≡ has_bit bit (read_word (row_of row).kind r around (at row i))
  reads-at around bit low =
      ap (λ a. has_bit bit (given around r a)) ((listed row).met i inside)
      ∙ has_bit-shown (read_word (row_of row).kind r around (at row i)) bit low

  pub left-at : read_at r ((line_of row).address i) ≡ after_read (row_of row).kind r (at row i)
  left-at = ap (left r) ((listed row).met i inside)

  pub wrote-at : (w : ℕ) → write_at r ((line_of row).address i) w
      ≡ written (row_of row).kind r (at row i) whole w
  wrote-at w = ap (λ a. wrote r a w) ((listed row).met i inside)
