use Rattle.reg_table.proofs.Aligned.{whole_words}
use Rattle.reg_table.proofs.laws.addresses_are_aligned.Goals as goal

pub returns : goal.returns
returns c = whole_words
