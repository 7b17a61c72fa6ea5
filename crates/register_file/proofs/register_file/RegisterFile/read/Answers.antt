use Rattle.std.proofs.Common.{sym, ◌∙◌}
use Rattle.register_file.proofs.Storing.{counter_word}
use Rattle.register_file.proofs.register_file.RegisterFile.read.Goals as goal

pub set_word-requires-clause-holds : goal.set_word-requires-clause-holds
set_word-requires-clause-holds c =
    counter_word c.args.place.row c.args.place.index _ (sym c.kind_of.ensures ∙ c.in-Rc.is)
