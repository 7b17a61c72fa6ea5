use Rattle.datasheet_laws.proofs.ByKind.{read_eeprom}
use Rattle.datasheet_laws.proofs.eeprom_is_read.Goals as goal

pub returns : goal.returns
returns c = read_eeprom
