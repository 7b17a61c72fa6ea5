use Rattle.std.proofs.Common.{◌≡◌, ◌∷◌, ◌∙◌, arith, rules, ◌<◌, ◌+◌, ◌*◌, ◌^◌, min}
use Rattle.text_format.proofs.FrontDigits.{front-next, past-next}
use Rattle.text_format.proofs.numbers.split_numeral.Goals as goal

pub each-preserved : goal.each-preserved
each-preserved c =
    let radix = c.args.radix in
    let digit = c.digit_of-digit.result in
    let rest = c.each.rest.now in
    let more = c.in-Some.more.now in
    let first : rest ≡ c.in-Some.byte.now ∷ more = search rules in
    let small : digit < radix = omega arith in
    let said = c.digit_of-digit.ensures.digit small in
    let next : c.min-value.result ≡ min (c.each.value * radix + digit) (2 ^ 32) = cc in
    record {
      capped = omega arith;
      front = front-next radix c.each.value c.min-value.result digit c.in-Some.byte.now rest more first
          said small next ∙ c.each.invariant.front;
      after = past-next radix digit c.in-Some.byte.now rest more first said small
          ∙ c.each.invariant.after;
    }
