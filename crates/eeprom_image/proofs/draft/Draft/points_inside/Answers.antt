use Rattle.std.proofs.Common.{◌≡◌, ◌&&◌, true, false, sym, ap, ◌∙◌}
use Rattle.std.specs.List.{list_all}
use Rattle.eeprom_image.specs.Section.{pointers}
use Rattle.eeprom_image.specs.Image.{are_inside}
use Rattle.eeprom_image.specs.Text.{is_past}
use Rattle.eeprom_image.specs.Draft.{content_in}
use Rattle.eeprom_image.proofs.Pointers.{points_inside-is}
use Rattle.eeprom_image.proofs.draft.Draft.points_inside.Goals as goal

pub returns-then-are_past : goal.returns-then-are_past
returns-then-are_past c =
    let words = c.args.words.now in
    let after : list_all is_past (pointers words) ≡ true = sym c.are_past.ensures ∙ c.if-are_past.true in
    sym (points_inside-is (content_in c.args.self.now) words c.requires.words.size c.requires.words.plain
    c.requires.long
    ∙ ap (λ b. b && are_inside words) after ∙ sym c.are_inside.ensures)

pub returns-else-are_past : goal.returns-else-are_past
returns-else-are_past c =
    let words = c.args.words.now in
    let after : list_all is_past (pointers words) ≡ false = sym c.are_past.ensures ∙ c.if-are_past.false in
    c.if-are_past.false ∙ sym (points_inside-is (content_in c.args.self.now) words c.requires.words.size
    c.requires.words.plain c.requires.long
    ∙ ap (λ b. b && are_inside words) after)
