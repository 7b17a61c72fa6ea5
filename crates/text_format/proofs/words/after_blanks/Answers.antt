use Rattle.std.proofs.Common.{rules}
use Rattle.text_format.proofs.Blanks.{IsCharBoundary-after_blanks}
use Rattle.text_format.proofs.words.after_blanks.Goals as goal

pub range_from-requires : goal.range_from-requires
range_from-requires c = λ _. IsCharBoundary-after_blanks c.args.text.now c.blanks_in_front-blanks.result
    (search rules) c.utf8.text
