use Rattle.std.proofs.Common.{refl}
use Rattle.reg_table.specs.Rows.{rows}
use Rattle.register_file.specs.Words.{reset_words}
use Rattle.register_file.proofs.register_file.RegisterFile.reset.Goals as goal

pub returns : goal.returns
unfolding reset_words rows
returns c = rw (c.new-self-inside.ensures, c.zero-self-inside.ensures) refl
