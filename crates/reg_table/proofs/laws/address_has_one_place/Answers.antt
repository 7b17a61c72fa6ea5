use Rattle.reg_table.proofs.Finding.{one_place}
use Rattle.reg_table.proofs.laws.address_has_one_place.Goals as goal

pub returns : goal.returns
returns c = one_place
