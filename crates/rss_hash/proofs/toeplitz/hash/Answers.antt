use Rattle.std.proofs.Common.{rules, arith}
use Rattle.std.proofs.lemmas.Bool.Decides.{nat_tests}
use Rattle.rss_hash.specs.Toeplitz.{toeplitz_hash}
use Rattle.rss_hash.proofs.Windows.{hash_below_more}
use Rattle.rss_hash.proofs.toeplitz.hash.Goals as goal

pub loop-k-preserved : goal.loop-k-preserved
loop-k-preserved c =
    let more = hash_below_more c.args.key.now.0 c.args.input.now c.loop-k.k in
    grind (arith, nat_tests)

pub returns : goal.returns
unfolding toeplitz_hash
returns c = search rules
