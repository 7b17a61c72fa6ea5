use Rattle.eeprom_image.specs.Draft.{content_in}
use Rattle.eeprom_image.proofs.Faultless.{fits_end}
use Rattle.eeprom_image.proofs.LaidOut.{IsLaidOut-put}
use Rattle.eeprom_image.proofs.layout.lay_into.Goals as goal

pub returns : goal.returns
returns c =
    let content = content_in c.args.draft.now in
    rw (c.in_ok-put_csr.ensures, c.put_words.ensures, c.deref.ensures.value, c.deref-2.ensures.value, c.requires.blank)
    (IsLaidOut-put content c.requires.long (fits_end content c.requires.fits))
