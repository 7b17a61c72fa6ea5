use Rattle.std.proofs.Common.{lit<}
use Rattle.std.proofs.lemmas.Option.{MatchOption-at_none}
use Rattle.std.proofs.lemmas.Str.Pattern.{strip_suffix_char}
use Rattle.text_format.proofs.FirstLine.{strip_carriage_return-none}
use Rattle.text_format.proofs.lines.without_carriage_return.Goals as goal

pub returns-in-None : goal.returns-in-None
returns-in-None c =
    let cases = strip_suffix_char 13 c.args.line.now c.strip_suffix.result c.strip_suffix.ensures.cases (lit< tt) in
    strip_carriage_return-none c.args.line.now (MatchOption-at_none _ _ c.in-None.is cases)
