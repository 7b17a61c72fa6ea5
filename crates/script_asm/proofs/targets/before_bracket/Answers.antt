use Rattle.std.proofs.Common.{lit<}
use Rattle.std.proofs.lemmas.Str.Pattern.{strip_suffix_char}
use Rattle.script_asm.proofs.Endings.{before_last_byte-stripped}
use Rattle.script_asm.proofs.targets.before_bracket.Goals as goal

pub returns : goal.returns
returns c = before_last_byte-stripped 93 c.args.word.now c.strip_suffix.result
    (strip_suffix_char 93 c.args.word.now c.strip_suffix.result c.strip_suffix.ensures.cases (lit< tt))
