use Rattle.std.proofs.Common.{rules}
use Rattle.text_format.proofs.WordsAfter.{words-none, words-some}
use Rattle.text_format.proofs.words.split_word.Goals as goal

pub returns-then-is_empty : goal.returns-then-is_empty
returns-then-is_empty c = words-none c.args.text.now c.after_blanks.result.now c.split_at_end.result.0.now
    c.after_blanks.ensures c.split_at_end.ensures.word (search rules)

pub returns-else-is_empty : goal.returns-else-is_empty
returns-else-is_empty c = words-some c.args.text.now c.after_blanks.result.now c.split_at_end.result.0.now
    c.split_at_end.result.1.now c.after_blanks.ensures c.split_at_end.ensures.word c.split_at_end.ensures.after
    (search rules)
