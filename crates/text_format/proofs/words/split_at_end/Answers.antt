use Rattle.std.proofs.Common.{rules}
use Rattle.text_format.proofs.Blanks.{IsCharBoundary-end_of_word}
use Rattle.text_format.proofs.words.split_at_end.Goals as goal

pub range-requires-clause-end_boundary : goal.range-requires-clause-end_boundary
range-requires-clause-end_boundary c = IsCharBoundary-end_of_word c.args.text.now c.word_length-end.result
    (search rules)

pub range_from-requires : goal.range_from-requires
range_from-requires c = λ _. IsCharBoundary-end_of_word c.args.text.now c.word_length-end.result (search rules)
