-- Whole words that reads return.
use Rattle.std.proofs.Common.{◌≡◌, ℕ, ◌<◌, ◌%◌, ◌^◌, ap, ◌∙◌, arith}
use Rattle.std.specs.Prelude.{bit_and}
use Rattle.std.proofs.lemmas.Nat.{and_mask}
use Rattle.nic_device.proofs.RegisterLaws.RowBits.{word_small}
use Rattle.datasheet_laws.specs.Prelude.{Block, IsSound, Place, Reply, State, word_at, word_read}
use Rattle.datasheet_laws.specs.Names.{IsAddressOf}
use Rattle.datasheet_laws.specs.Shown.{word_in, read_at}
use Rattle.datasheet_laws.proofs.Words.{reply-read}

pub whole_word : (n : ℕ) → n < 2 ^ 32 → bit_and n 0xFFFFFFFF ≡ n
whole_word n h = let low : bit_and n 0xFFFFFFFF ≡ n % 2 ^ 32 = and_mask n 32 in omega arith

-- A word, at an address that shows all of it.
pub read-word : (s : State) (a : ℕ) (p : Place) → IsAddressOf p a 0xFFFFFFFF → word_read s p < 2 ^ 32
    → read_at s a ≡ word_read s p
read-word s a p is h =
    ap (λ (r : Reply Block). word_in r) (reply-read s a p is.named)
    ∙ ap (bit_and (word_read s p)) is.view
    ∙ whole_word (word_read s p) h

-- The words of a sound device have 32 bits.
pub word_lt : (s : State) → IsSound s → (p : Place) → word_at s.registers.words p < 2 ^ 32
word_lt s h p = word_small s.registers h.registers p
