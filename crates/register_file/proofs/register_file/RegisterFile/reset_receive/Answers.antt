use Rattle.register_file.proofs.Columns.{receive_columns}
use Rattle.register_file.proofs.register_file.RegisterFile.reset_receive.Goals as goal

pub returns : goal.returns
returns c = rw (← c.self.view_is) (simp (c.from.ensures, receive_columns))
