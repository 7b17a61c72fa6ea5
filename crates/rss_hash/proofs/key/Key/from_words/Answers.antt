use Rattle.std.proofs.Common.{arith}
use Rattle.std.proofs.lemmas.List.{ext_get_or}
use Rattle.rss_hash.specs.Registers.{bytes_of_registers}
use Rattle.rss_hash.proofs.RegisterBytes.{length-bytes_of_registers}
use Rattle.rss_hash.proofs.key.Key.from_words.Goals as goal

pub returns : goal.returns
returns c =
    ext_get_or 0 c.loop-n.bytes (bytes_of_registers c.args.words.now)
    (omega (arith, length-bytes_of_registers c.args.words.now)) (λ i within. c.loop-n.invariant.1 i (omega arith))
