use Rattle.std.proofs.Common.{◌≡◌, replicate, rules}
use Rattle.eeprom_image.proofs.Blank.{blank_of_size}
use Rattle.eeprom_image.proofs.image.Image.blank.Goals as goal

pub invariant_of-result : goal.invariant_of-result
invariant_of-result c =
    let filled : c.in_ok-words.words.items ≡ replicate 64 65535 = search rules in
    rw filled blank_of_size.image

pub returns-clause-meant : goal.returns-clause-meant
returns-clause-meant c =
    let filled : c.in_ok-words.words.items ≡ replicate 64 65535 = search rules in
    rw filled blank_of_size
