use Rattle.std.proofs.Common.{rules, not}
use Rattle.text_format.specs.Words.{is_blank}
use Rattle.text_format.proofs.Blanks.{position-at, position-none}
use Rattle.text_format.proofs.words.blanks_in_front.Goals as goal

pub returns-in-Some : goal.returns-in-Some
returns-in-Some c = position-at (λ byte. not (is_blank byte)) c.args.bytes.now c.in-Some.blanks (search rules)

pub returns-in-None : goal.returns-in-None
returns-in-None c = position-none (λ byte. not (is_blank byte)) c.args.bytes.now (search rules)
