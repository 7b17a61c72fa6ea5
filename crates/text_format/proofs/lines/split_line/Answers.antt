use Rattle.std.proofs.Common.{rules, lit<}
use Rattle.std.proofs.lemmas.Option.{MatchOption-at_none}
use Rattle.std.proofs.lemmas.Str.Pattern.{split_once_first}
use Rattle.text_format.proofs.FirstLine.{lines-first, lines-last}
use Rattle.text_format.proofs.lines.split_line.Goals as goal

pub returns-in-Some-clause-cases : goal.returns-in-Some-clause-cases
returns-in-Some-clause-cases c =
    let cases = split_once_first 10 c.args.text.now c.split_once.result c.split_once.ensures.cases (lit< tt) in
    let parts = rw c.in-Some.is at cases in
    rw c.without_carriage_return.ensures
    (lines-first c.args.text.now c.in-Some.line.now c.in-Some.after.now parts.0 parts.1 parts.2)

pub returns-in-None-clause-cases : goal.returns-in-None-clause-cases
returns-in-None-clause-cases c =
    let cases = split_once_first 10 c.args.text.now c.split_once.result c.split_once.ensures.cases (lit< tt) in
    lines-last c.args.text.now (MatchOption-at_none _ _ c.in-None.is cases) (search rules)
