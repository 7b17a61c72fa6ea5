use Rattle.std.proofs.Common.{sym}
use Rattle.eeprom_image.proofs.TripleLists.{length-triples_in}
use Rattle.eeprom_image.proofs.image.Image.triple_count.Goals as goal

pub returns : goal.returns
returns c = rw c.csr_section.ensures (sym (length-triples_in _))
