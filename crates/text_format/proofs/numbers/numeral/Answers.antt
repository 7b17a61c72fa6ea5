use Rattle.std.proofs.Common.{rules}
use Rattle.text_format.proofs.Digits.{numeral_of-none, numeral_of-value, numeral_of-too_large}
use Rattle.text_format.proofs.numbers.numeral.Goals as goal

pub returns-in-None : goal.returns-in-None
returns-in-None c = numeral_of-none c.args.radix c.args.word.now c.requires.low (search rules) (search rules)

pub returns-in-Some : goal.returns-in-Some
returns-in-Some c = numeral_of-value c.args.radix c.in-Some.value c.args.word.now c.requires.low (search rules)
    (search rules) (search rules)

pub returns-in-Some-2 : goal.returns-in-Some-2
returns-in-Some-2 c =
    numeral_of-too_large c.args.radix c.in-Some-2.field-0 c.args.word.now c.requires.low (search rules)
    (search rules) (search rules)
