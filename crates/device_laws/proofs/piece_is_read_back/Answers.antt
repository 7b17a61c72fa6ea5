use Rattle.device_laws.proofs.Delivered.{read_back}
use Rattle.device_laws.proofs.piece_is_read_back.Goals as goal

pub returns : goal.returns
returns c = read_back
