use Rattle.std.proofs.Common.{◌≡◌, fold, take}
use Rattle.eeprom_image.specs.Layout.{put_word}
use Rattle.eeprom_image.proofs.layout.put_words.Given as goal

abbrev pub invariant-loop-word : goal.invariant-loop-word
invariant-loop-word l = l.words ≡ fold put_word l.fn.words (take l.word-index l.given)
