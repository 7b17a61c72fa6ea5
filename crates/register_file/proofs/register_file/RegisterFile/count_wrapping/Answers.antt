use Rattle.register_file.proofs.Storing.{read_only_word}
use Rattle.register_file.proofs.register_file.RegisterFile.count_wrapping.Goals as goal

pub set_word-requires-clause-holds : goal.set_word-requires-clause-holds
set_word-requires-clause-holds c = read_only_word c.args.row c.args.index _ c.requires.counter
