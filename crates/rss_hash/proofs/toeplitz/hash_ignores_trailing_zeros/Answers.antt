use Rattle.rss_hash.proofs.HashLaws.{ignores_trailing_zeros}
use Rattle.rss_hash.proofs.toeplitz.hash_ignores_trailing_zeros.Goals as goal

pub returns : goal.returns
returns c = ignores_trailing_zeros c.args.key.now.0
