use Rattle.std.proofs.Common.{◌≡◌, Ok, arith}
use Rattle.eeprom_image.specs.Draft.{content_in}
use Rattle.eeprom_image.specs.Text.{sound_content}
use Rattle.eeprom_image.proofs.Contents.{content_of-right}
use Rattle.eeprom_image.proofs.Faultless.{size_bounds}
use Rattle.eeprom_image.proofs.Unique.{image_of_laid_out, sound_content-is}
use Rattle.eeprom_image.proofs.text.assemble.Goals as goal

pub plain_words-requires-clause-long : goal.plain_words-requires-clause-long
plain_words-requires-clause-long c =
    let content = content_in c.in_ok-draft.draft in
    (size_bounds content.size (content_of-right c.args.text.now content c.in_ok-draft.ensures).size).0

pub plain_words-requires-clause-short : goal.plain_words-requires-clause-short
plain_words-requires-clause-short c =
    let content = content_in c.in_ok-draft.draft in
    let bounds = size_bounds content.size (content_of-right c.args.text.now content c.in_ok-draft.ensures).size in
    omega arith

pub of-requires : goal.of-requires
of-requires c =
    let content = content_in c.in_ok-draft.draft in
    let right = content_of-right c.args.text.now content c.in_ok-draft.ensures in
    rw c.with_checksum.ensures (image_of_laid_out content c.in_ok-words.words.items right c.in_ok-words.ensures.ok
    c.in_ok-words.ensures.words).image

pub returns-clause-image : goal.returns-clause-image
returns-clause-image c =
    let content = content_in c.in_ok-draft.draft in
    let right = content_of-right c.args.text.now content c.in_ok-draft.ensures in
    let sound : sound_content c.args.text.now ≡ Ok (content_in c.in_ok-draft.draft) =
    sound_content-is c.args.text.now content c.in_ok-draft.ensures c.in_ok-words.ensures.ok in
    rw (sound, c.of.ensures, c.with_checksum.ensures)
    (image_of_laid_out content c.in_ok-words.words.items right c.in_ok-words.ensures.ok c.in_ok-words.ensures.words)
