use Rattle.register_file.proofs.Storing.{counter_word}
use Rattle.register_file.proofs.register_file.RegisterFile.count.Goals as goal

pub set_word-requires-clause-holds : goal.set_word-requires-clause-holds
set_word-requires-clause-holds c = counter_word c.args.row c.args.index _ c.requires.counter
