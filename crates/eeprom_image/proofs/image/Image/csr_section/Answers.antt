use Rattle.eeprom_image.proofs.Sections.{csr_inside}
use Rattle.eeprom_image.proofs.image.Image.csr_section.Goals as goal

pub section-requires : goal.section-requires
section-requires c = rw (
  c.deref.ensures.value,
  c.word.ensures,
  ← c.self.view_is,
) (csr_inside c.self.inside.words.items c.self.invariant.sections)
