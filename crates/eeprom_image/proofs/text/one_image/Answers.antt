use Rattle.eeprom_image.proofs.ImageWords.{content_fault-of_image}
use Rattle.eeprom_image.proofs.Unique.{one_image_of}
use Rattle.eeprom_image.proofs.text.one_image.Goals as goal

pub returns-clause-one : goal.returns-clause-one
returns-clause-one c = one_image_of

pub returns-clause-none : goal.returns-clause-none
returns-clause-none c = content_fault-of_image
