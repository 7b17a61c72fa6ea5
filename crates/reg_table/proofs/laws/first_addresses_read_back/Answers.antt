use Rattle.reg_table.proofs.FirstAddresses.{first_addresses_read_back}
use Rattle.reg_table.proofs.laws.first_addresses_read_back.Goals as goal

pub returns : goal.returns
returns c = first_addresses_read_back
