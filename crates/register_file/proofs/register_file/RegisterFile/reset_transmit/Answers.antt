use Rattle.register_file.proofs.Columns.{transmit_columns}
use Rattle.register_file.proofs.register_file.RegisterFile.reset_transmit.Goals as goal

pub returns : goal.returns
returns c = rw (← c.self.view_is) (simp (c.from.ensures, transmit_columns))
