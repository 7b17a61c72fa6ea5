use Rattle.std.proofs.Common.{◌≡◌, Some, None, sym, ◌∙◌, ap, arith}
use Rattle.eeprom_image.specs.Bytes.{words_of}
use Rattle.eeprom_image.specs.File.{file_fault}
use Rattle.eeprom_image.proofs.Files.{even_file, image_from_file, file_from_image}
use Rattle.eeprom_image.proofs.file.load.Goals as goal

pub returns-in-Some-clause-each_file : goal.returns-in-Some-clause-each_file
returns-in-Some-clause-each_file c = λ words image file.
    let none : Some c.in-Some.fault ≡ None =
    c.in-Some.ensures.first ∙ ap file_fault file ∙ (file_from_image words image).0 in
    cc

pub words_in-requires : goal.words_in-requires
words_in-requires c = even_file c.args.bytes.now (sym c.in-None.ensures.first)

pub of-requires : goal.of-requires
of-requires c = rw c.in-Ok.ensures
    (image_from_file c.args.bytes.now (λ i. omega (arith, c.type_inv.bytes i)) (sym c.in-None.ensures.first)).0

pub returns-in-Ok-clause-file : goal.returns-in-Ok-clause-file
returns-in-Ok-clause-file c = rw (
  c.of.ensures,
  c.in-Ok.ensures,
) (image_from_file c.args.bytes.now (λ i. omega (arith, c.type_inv.bytes i))
    (sym c.in-None.ensures.first))

pub returns-in-Ok-clause-each_file : goal.returns-in-Ok-clause-each_file
returns-in-Ok-clause-each_file c =
    λ words image file. c.of.ensures ∙ c.in-Ok.ensures ∙ ap words_of file ∙ (file_from_image words image).1
