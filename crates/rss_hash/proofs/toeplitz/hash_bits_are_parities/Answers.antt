use Rattle.rss_hash.proofs.HashBits.{has_parity_bits}
use Rattle.rss_hash.proofs.toeplitz.hash_bits_are_parities.Goals as goal

pub returns : goal.returns
returns c = has_parity_bits c.args.key.now.0
