use Rattle.std.proofs.Common.{◌<◌, length, sym, ◌∙◌, ap, arith, ◌+◌}
use Rattle.eeprom_image.proofs.Sums.{sum-part_more}
use Rattle.eeprom_image.proofs.section.sum_from.Goals as goal

pub loop-i-preserved : goal.loop-i-preserved
loop-i-preserved g c =
    let words = g.W.Words.words c.args.words.now in
    let high : c.loop-i.i < length words = omega arith in
    record {
      sum = ap (λ n. n + c.from-total.result) c.loop-i.invariant.sum
          ∙ sym (sum-part_more words c.args.first c.loop-i.i c.from-total.result c.loop-i.auto.i high
          (c.from-total.ensures ∙ c.word.ensures));
      bound = omega arith;
    }
