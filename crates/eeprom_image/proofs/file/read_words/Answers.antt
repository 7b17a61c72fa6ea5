use Rattle.std.proofs.Common.{arith}
use Rattle.eeprom_image.proofs.FileBytes.{words_of-from_read}
use Rattle.eeprom_image.proofs.file.read_words.Goals as goal

pub returns : goal.returns
returns c = words_of-from_read c.args.bytes.now c.read_u16_into.new.dst (omega arith) c.read_u16_into.ensures
