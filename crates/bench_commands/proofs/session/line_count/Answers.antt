use Rattle.std.proofs.Common.{◌∙◌, ap, length, arith}
use Rattle.nic_device.proofs.EepromImage.LineCount.{length-lines_of-le}
use Rattle.nic_device.proofs.EepromImage.Numbered.{IsNumberedFrom-lines_of}
use Rattle.bench_commands.proofs.session.line_count.Goals as goal

pub loop-line-init : goal.loop-line-init
loop-line-init c =
    let all = c.into_iter-line-iterator.ensures.into_iter_gives ∙ c.of-line-items.ensures in
    let count = ap length all in
    record {
      numbered = rw all (IsNumberedFrom-lines_of c.args.text.now);
      whole = omega arith;
    }

pub prove-unreachable-requires : goal.prove-unreachable-requires
prove-unreachable-requires c = omega (arith, length-lines_of-le c.args.text.now)
