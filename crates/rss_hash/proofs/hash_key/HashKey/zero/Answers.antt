use Rattle.rss_hash.proofs.ZeroKey.{windows_of_zeros}
use Rattle.rss_hash.proofs.hash_key.HashKey.zero.Goals as goal

pub invariant_of-result : goal.invariant_of-result
invariant_of-result c = record { windows = windows_of_zeros }
