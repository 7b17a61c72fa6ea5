use Rattle.std.proofs.Common.{◌≡◌, ◌^◌, ◌<◌}
use Rattle.rss_hash.specs.Bits.{bits_from}
use Rattle.rss_hash.proofs.key.Key.window.Given as goal

-- The window is the number that the bits processed so far form.
abbrev pub invariant-loop-k : goal.invariant-loop-k
invariant-loop-k l = (l.window ≡ bits_from l.self.0 l.first l.k) × (l.window < 2 ^ l.k)
