use Rattle.std.proofs.Common.{sym}
use Rattle.std.proofs.lemmas.Option.{slice_get_past}
use Rattle.eeprom_image.specs.Triples.{triples_of}
use Rattle.eeprom_image.proofs.TripleLists.{length-triples_in, got_triple}
use Rattle.eeprom_image.proofs.image.Image.triple.Goals as goal

pub returns-then-index-words : goal.returns-then-index-words
returns-then-index-words c =
    rw (← c.csr_section-words.ensures)
    (got_triple c.csr_section-words.result.now c.args.index c.next.new.self c.next.result c.of.result c.of.ensures
    c.next.ensures.steps)

pub returns-else-index-words : goal.returns-else-index-words
returns-else-index-words c =
    let past = c.if-index-words.false in
    sym (slice_get_past (triples_of c.args.self.now) c.args.index
    (rw length-triples_in (rw c.csr_section-words.ensures at past)))
