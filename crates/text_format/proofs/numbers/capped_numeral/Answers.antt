use Rattle.std.proofs.Common.{◌≤◌, length, drop, sym, arith, ap}
use Rattle.text_format.specs.Number.{digits_in_front}
use Rattle.text_format.proofs.FrontDigits.{capped_numeral-stopped}
use Rattle.text_format.proofs.numbers.capped_numeral.Goals as goal

pub returns-in_default-len1-up : goal.returns-in_default-len1-up
returns-in_default-len1-up c =
    let left : 1 ≤ length (drop (digits_in_front c.args.radix c.args.digits.now) c.args.digits.now) =
    omega (arith, ap length c.split_numeral-value.ensures.after) in
    sym (capped_numeral-stopped c.args.radix 0 c.args.digits.now left)
