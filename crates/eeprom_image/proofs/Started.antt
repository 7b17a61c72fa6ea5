-- Lemmas about what EEPROM source defines, starting with its size.
use Rattle.std.proofs.Common.{refl, sym, ◌∙◌, ap, ◌≡◌, ℕ, ◌+◌, List, [], ◌∷◌, length, Some, None, Ok, Err}
use Rattle.text_format.specs.Lines.{NumberedLine, lines_of}
use Rattle.eeprom_image.specs.Content.{content_of, with_lines, only_size, sized, sized_by, content_after, ◌then◌}
use Rattle.eeprom_image.specs.Line.{text_line}
use Rattle.eeprom_image.specs.declared.line.TextLine.{TextLine}
use Rattle.eeprom_image.specs.declared.text.AsmFault.TheVariants.{Syntax}

pub content_of-sized : (text : List ℕ) (size : ℕ) (after : List NumberedLine)
    → sized (lines_of text) ≡ Ok (Some (size, after)) → content_of text ≡ with_lines (only_size size) after
unfolding content_of
content_of-sized text size after is = ap (λ s. s then content_after (length (lines_of text) + 1)) is

pub content_of-faulty : (text : List ℕ) (line : ℕ) → sized (lines_of text) ≡ Err (Syntax line)
    → content_of text ≡ Err (Syntax line)
unfolding content_of
content_of-faulty text line is = ap (λ s. s then content_after (length (lines_of text) + 1)) is

pub content_of-none : (text : List ℕ) → sized (lines_of text) ≡ Ok None
    → content_of text ≡ Err (Syntax (length (lines_of text) + 1))
unfolding content_of
content_of-none text is = ap (λ s. s then content_after (length (lines_of text) + 1)) is

-- What the lines define follows from the first line and from what the lines after it define.
pub sized-first : (lines after : List NumberedLine) (line : NumberedLine) (says : TextLine) → lines ≡ line ∷ after
    → text_line line.text ≡ says → sized lines ≡ sized_by says line.number after (sized after)
unfolding sized
sized-first lines after line says is said = ap sized is ∙ ap (λ t. sized_by t line.number after (sized after)) said

pub sized-nothing : (lines : List NumberedLine) → lines ≡ [] → sized lines ≡ Ok None
unfolding sized
sized-nothing lines none = rw none refl

-- If the first of the remaining lines isn't accepted as the line that defines the size, this line is the first faulty
-- line.
pub content_of-refused : (text : List ℕ) (lines after : List NumberedLine) (line : NumberedLine) (says : TextLine)
    → sized lines ≡ sized (lines_of text) → lines ≡ line ∷ after → text_line line.text ≡ says
    → sized_by says line.number after (sized after) ≡ Err (Syntax line.number)
    → content_of text ≡ Err (Syntax line.number)
content_of-refused text lines after line says same is said refused =
    content_of-faulty text line.number (sym same ∙ sized-first lines after line says is said ∙ refused)
