use Rattle.register_file.proofs.Columns.{receive_columns, transmit_columns}
use Rattle.register_file.proofs.register_file.RegisterFile.want.Goals as goal

pub returns-in-Rx : goal.returns-in-Rx
returns-in-Rx c = rw (← c.self.view_is, c.in-Rx.is) (simp (c.from.ensures, receive_columns))

pub returns-in-Tx : goal.returns-in-Tx
returns-in-Tx c = rw (← c.self.view_is, c.in-Tx.is) (simp (c.from-in-Tx.ensures, transmit_columns))
