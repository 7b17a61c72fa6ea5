use Rattle.std.proofs.Common.{sym}
use Rattle.eeprom_image.proofs.FileBytes.{length-words_of}
use Rattle.eeprom_image.proofs.words.FileWordsWords.count.Goals as goal

pub returns : goal.returns
returns c = sym (length-words_of c.args.self.now.bytes.now)
