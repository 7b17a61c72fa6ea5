use Rattle.std.proofs.Common.{◌≡◌, ◌+◌, ◌-◌, length, arith, refl}
use Rattle.std.proofs.lemmas.List.{drop-drop}
use Rattle.eeprom_image.proofs.layout.put_section.Goals as goal

pub returns : goal.returns
returns c =
    let count : 64 + length c.args.section.now - 64 ≡ length c.args.section.now = omega arith in
    rw (count, c.copy_from_slice.ensures.after, drop-drop) refl
