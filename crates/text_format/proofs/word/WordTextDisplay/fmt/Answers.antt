use Rattle.std.proofs.Common.{◌≡◌, Some, ap, length, ◌++◌, ◌-◌, false, []}
use Rattle.std.specs.Prelude.{replicate}
use Rattle.std.specs.Fmt.{styled_digits_output, digits}
use Rattle.text_format.proofs.Hex.{padded_integral-hex}
use Rattle.text_format.proofs.word.WordTextDisplay.fmt.Goals as goal

pub returns-clause-writes : goal.returns-clause-writes
returns-clause-writes g c =
    let ds = digits 16 false c.args.self.now.0 in
    let shown : styled_digits_output c.in_radix.result c.laid_out.result ≡ Some (replicate (8 - length ds) 48 ++ ds) =
    rw (c.in_radix.ensures, c.laid_out.ensures) (ap Some (padded_integral-hex 8 c.args.self.now.0 [])) in
    rw shown at c.write.ensures.writes
