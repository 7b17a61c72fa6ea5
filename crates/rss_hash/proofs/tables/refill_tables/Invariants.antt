use Rattle.std.proofs.Common.{◌≡◌, ℕ, ◌*◌, ◌+◌, ◌<◌, ◌≤◌, ◌⊎◌, [], length, slice_index, get_or}
use Rattle.rss_hash.specs.Bits.{bits_from}
use Rattle.rss_hash.specs.Tables.{half_share}
use Rattle.rss_hash.proofs.tables.refill_tables.Given as goal

-- The rows before row `n`, and the rows whose windows begin after the written word, are correct. The next window is
-- correct too.
abbrev pub invariant-loop-n : goal.invariant-loop-n
invariant-loop-n l = record {
  whole : length l.tables ≡ 72;
  written : (m v : ℕ) → m < 72 → v < 16 → (m < l.n ⊎ 8 * l.index + 8 ≤ m)
      → slice_index (get_or l.tables m []) v ≡ half_share l.key.0 m v;
  next : l.window ≡ bits_from l.key.0 (4 * l.n) 32;
}
