use Rattle.std.proofs.Common.{refl}
use Rattle.reg_table.specs.Rows.{rows}
use Rattle.register_file.specs.Words.{reset_words}
use Rattle.register_file.proofs.register_file.RegisterFile.new.Goals as goal

pub returns : goal.returns
unfolding reset_words rows
returns c = rw (c.new.ensures, c.zero.ensures) refl
