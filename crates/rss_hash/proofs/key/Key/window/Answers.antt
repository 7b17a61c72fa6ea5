use Rattle.std.proofs.Common.{refl, arith}
use Rattle.std.proofs.lemmas.Grind.{common_steps}
use Rattle.rss_hash.specs.Bits.{bits_from}
use Rattle.rss_hash.proofs.Windows.{bits_from_more}
use Rattle.rss_hash.proofs.key.Key.window.Goals as goal

pub loop-k-init : goal.loop-k-init
unfolding bits_from
loop-k-init c = (refl, omega arith)

pub loop-k-preserved : goal.loop-k-preserved
loop-k-preserved c =
    let more = bits_from_more c.args.self.now.0 c.args.first c.loop-k.k in
    (omega (arith, more), grind (arith, common_steps))
