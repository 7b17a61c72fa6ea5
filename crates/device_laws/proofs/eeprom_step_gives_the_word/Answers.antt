use Rattle.device_laws.proofs.EepromReads.{step_gives, step_idle}
use Rattle.device_laws.proofs.StandingRest.{eeprom_rest}
use Rattle.device_laws.proofs.eeprom_step_gives_the_word.Goals as goal

pub returns : goal.returns
returns c = record { word = step_gives; idle = step_idle; rest = eeprom_rest }
