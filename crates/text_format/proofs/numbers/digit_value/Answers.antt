use Rattle.std.proofs.Common.{◌≡◌, ◌+◌, ◌<◌, ◌∙◌, ap, refl, arith}
use Rattle.std.specs.Char.{digit_value}
use Rattle.text_format.specs.declared.numbers.TheConstants.{DIGIT_VALUES}
use Rattle.text_format.proofs.DigitTable.{value_at}
use Rattle.text_format.proofs.numbers.digit_value.Goals as goal

pub returns : goal.returns
returns c =
    let same : 0 + c.from.result ≡ c.args.byte = omega arith in
    let inside : c.from.result < 256 = omega arith in
    value_at 0 DIGIT_VALUES c.from.result refl inside ∙ ap digit_value same
