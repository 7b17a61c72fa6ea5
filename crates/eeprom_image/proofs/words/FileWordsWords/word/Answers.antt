use Rattle.std.proofs.Common.{sym, ◌∙◌, ap, arith, ◌*◌}
use Rattle.std.proofs.lemmas.List.{get_or_past, take_rest}
use Rattle.byteorder.specs.Endian.{little_number}
use Rattle.eeprom_image.specs.Bytes.{words_of}
use Rattle.eeprom_image.proofs.FileBytes.{length-words_of, get_or-words_of}
use Rattle.eeprom_image.proofs.words.FileWordsWords.word.Goals as goal

pub returns-then-index-self : goal.returns-then-index-self
returns-then-index-self c =
    let bytes = c.args.self.now.bytes.now in
    c.read_u16.ensures ∙ ap (little_number 2) (take_rest bytes (2 * c.args.index))
    ∙ sym (get_or-words_of bytes c.args.index 65535 c.if-index-self.true)

pub returns-else-index-self : goal.returns-else-index-self
returns-else-index-self c =
    let bytes = c.args.self.now.bytes.now in
    sym (get_or_past (words_of bytes) c.args.index 65535 (omega (arith, length-words_of bytes)))
