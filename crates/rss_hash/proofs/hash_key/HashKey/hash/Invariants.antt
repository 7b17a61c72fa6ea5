use Rattle.std.proofs.Common.{◌≡◌, ◌*◌, bit_xor}
use Rattle.rss_hash.specs.Registers.{bytes_of_registers}
use Rattle.rss_hash.proofs.Windows.{hash_below}
use Rattle.rss_hash.proofs.hash_key.HashKey.hash.Given as goal

-- The two partial hashes combined are the hash over the input bytes processed so far.
abbrev pub invariant-loop-i : goal.invariant-loop-i
invariant-loop-i l = bit_xor l.high l.low ≡ hash_below (bytes_of_registers l.self-inside.words) l.input (8 * l.i)
