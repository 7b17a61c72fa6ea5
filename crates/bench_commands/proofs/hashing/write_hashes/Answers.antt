use Rattle.std.proofs.Common.{arith, refl, subst}
use Rattle.std.specs.Io.KnownBytes.{Appends}
use Rattle.bench_commands.proofs.Appending.{Appends-both, Appends-none}
use Rattle.bench_commands.proofs.HashedLines.{lines-all, lines-more}
use Rattle.bench_commands.proofs.hashing.write_hashes.Goals as goal

pub loop-hash-init : goal.loop-hash-init
loop-hash-init g c = Appends-none _

pub loop-hash-preserved : goal.loop-hash-preserved
loop-hash-preserved g c =
    subst (Appends (g.W.Write.contents c.args.output.now.writer) (g.W.Write.contents c.write_hash.new.output.writer))
    (lines-more c.args.hashes.now c.loop-hash.hash-index c.loop-hash-test.true)
    (Appends-both _ _ _ _ _ c.loop-hash.invariant (c.in_ok-write_hash.ensures.ok))

pub returns : goal.returns
returns g c = (
  subst (Appends (g.W.Write.contents c.args.output.now.writer) (g.W.Write.contents c.loop-hash.output.writer))
      (lines-all c.args.hashes.now c.loop-hash.hash-index
      (omega (arith, c.loop-hash-test.false, c.loop-hash.auto.hash-index-end)))
      c.loop-hash.invariant,
  refl,
)
