use Rattle.std.proofs.Common.{◌≡◌}
use Rattle.rss_hash.proofs.Windows.{hash_below}
use Rattle.rss_hash.proofs.toeplitz.hash.Given as goal

-- The number computed so far is the hash over the input bits processed so far.
abbrev pub invariant-loop-k : goal.invariant-loop-k
invariant-loop-k l = l.hash ≡ hash_below l.key.0 l.input l.k
