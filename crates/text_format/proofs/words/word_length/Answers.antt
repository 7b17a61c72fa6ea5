use Rattle.std.proofs.Common.{rules}
use Rattle.text_format.specs.Words.{ends_word}
use Rattle.text_format.proofs.Blanks.{position-at, position-none}
use Rattle.text_format.proofs.words.word_length.Goals as goal

pub returns-in-Some : goal.returns-in-Some
returns-in-Some c = position-at ends_word c.args.bytes.now c.in-Some.end (search rules)

pub returns-in-None : goal.returns-in-None
returns-in-None c = position-none ends_word c.args.bytes.now (search rules)
