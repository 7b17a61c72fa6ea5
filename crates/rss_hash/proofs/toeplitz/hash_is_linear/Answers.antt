use Rattle.rss_hash.proofs.HashLaws.{linear}
use Rattle.rss_hash.proofs.toeplitz.hash_is_linear.Goals as goal

pub returns : goal.returns
returns c = linear c.args.key.now.0
