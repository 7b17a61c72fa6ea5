use Rattle.datasheet_laws.proofs.Eeprom.{files}
use Rattle.datasheet_laws.proofs.images_are_by_number.Goals as goal

pub returns-clause-file : goal.returns-clause-file
returns-clause-file c = files
