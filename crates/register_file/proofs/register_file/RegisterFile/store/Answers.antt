use Rattle.register_file.proofs.Storing.{still_word}
use Rattle.register_file.proofs.register_file.RegisterFile.store.Goals as goal

pub set_word-requires-clause-holds : goal.set_word-requires-clause-holds
set_word-requires-clause-holds c =
    rw c.mask_of.ensures
    (still_word c.args.place.row c.args.place.index c.args.view c.cell-old.result c.args.word
    c.cell-old.ensures.holds)
