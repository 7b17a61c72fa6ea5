use Rattle.std.proofs.Common.{◌≡◌, ◌*◌, ◌∷◌, length, take}
use Rattle.std.specs.List.{flat_map}
use Rattle.eeprom_image.specs.Fault.{triple_words}
use Rattle.eeprom_image.proofs.layout.csr_section.Given as goal

abbrev pub invariant-loop-triple : goal.invariant-loop-triple
invariant-loop-triple l = l.section.items ≡ 3 * length l.triples ∷ flat_map triple_words (take l.triple-index l.triples)
