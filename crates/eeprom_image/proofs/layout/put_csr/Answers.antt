use Rattle.std.proofs.Common.{◌≢◌, length, sym, ap, ◌∙◌, arith, length-set}
use Rattle.eeprom_image.proofs.Layouts.{section_end-some}
use Rattle.eeprom_image.proofs.layout.put_csr.Goals as goal
use borrow.Author.Tests.{eqb-false}

pub put_section-requires : goal.put_section-requires
put_section-requires c =
    let triples = c.args.triples.now in
    let some : length c.args.triples.now ≢ 0 =
    eqb-false (length triples) 0 (sym c.is_empty.ensures ∙ c.if-is_empty.false) in
    omega (
      arith,
      length-set c.args.words.now 13 64,
      section_end-some triples (omega arith),
      ap length (c.deref.ensures.value ∙ c.in_ok-section.ensures),
    )
