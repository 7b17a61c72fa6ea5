use Rattle.std.proofs.Common.{◌≡◌, ℕ, ◌<◌, length, slice_index}
use Rattle.rss_hash.specs.Registers.{bytes_of_registers}
use Rattle.rss_hash.proofs.key.Key.from_words.Given as goal

-- The bytes written so far are the key's bytes.
abbrev pub invariant-loop-n : goal.invariant-loop-n
invariant-loop-n l =
    (length l.bytes ≡ 40) × ((k : ℕ) → k < l.n → slice_index l.bytes k ≡ slice_index (bytes_of_registers l.words) k)
