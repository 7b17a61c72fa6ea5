-- What the lines of EEPROM source define.
use Rattle.std.specs.Prelude.{ℕ, ◌+◌, List, [], ◌∷◌, ◌++◌, length, Option, Some, None, Result, Ok, Err}
use Rattle.text_format.specs.Lines.{NumberedLine, lines_of}
use Rattle.eeprom_image.specs.Line.{text_line}
use Rattle.eeprom_image.specs.declared.line.TextLine.{TextLine}
use Rattle.eeprom_image.specs.declared.line.TextLine.TheVariants.{Empty, Size, Word, Csr, Malformed}
use Rattle.eeprom_image.specs.declared.text.AsmFault.{AsmFault}
use Rattle.eeprom_image.specs.declared.text.AsmFault.TheVariants.{Syntax}

-- The number of words in the image; the defined words, each as its index and its value; and the defined triples, each
-- as its byte offset and its data.
pub record Content : Type 0 where
  pub size : ℕ
  pub words : List (ℕ × ℕ)
  pub triples : List (ℕ × ℕ)

infixl 10 ◌then◌
abbrev pub ◌then◌ : {A B : Type 0} → Result A AsmFault → (A → Result B AsmFault) → Result B AsmFault
(Ok x) then f = f x
(Err fault) then f = Err fault

-- Content that defines only the size.
abbrev pub only_size : ℕ → Content
only_size size = record { size = size; words = []; triples = [] }

-- The content after one more line.
abbrev pub with_line : Content → ℕ → TextLine → Result Content AsmFault
with_line content number Empty = Ok content
with_line content number (Size size) = Err (Syntax number)
with_line content number (Word index value) = Ok (record content { words = content.words ++ ((index, value) ∷ []) })
with_line content number (Csr offset value) =
    Ok (record content { triples = content.triples ++ ((offset, value) ∷ []) })
with_line content number Malformed = Err (Syntax number)

-- The content after more lines.
unfoldable pub with_lines : Content → List NumberedLine → Result Content AsmFault
with_lines content [] = Ok content
with_lines content (line ∷ lines) =
    with_line content line.number (text_line line.text) then λ more. with_lines more lines

-- A size and the lines after it, if there is a size.
abbrev pub Sized : Type 0
Sized = Option (ℕ × List NumberedLine)

-- The first nonempty line must define the size.
abbrev pub sized_by : TextLine → ℕ → List NumberedLine → Result Sized AsmFault → Result Sized AsmFault
sized_by Empty number lines later = later
sized_by (Size size) number lines later = Ok (Some (size, lines))
sized_by (Word index value) number lines later = Err (Syntax number)
sized_by (Csr offset value) number lines later = Err (Syntax number)
sized_by Malformed number lines later = Err (Syntax number)

-- The size that these lines define, and the lines after it; `None` if all lines are empty.
unfoldable pub sized : List NumberedLine → Result Sized AsmFault
sized [] = Ok None
sized (line ∷ lines) = sized_by (text_line line.text) line.number lines (sized lines)

-- What the lines after the size define. If there is no size, the line after the last one is faulty.
abbrev pub content_after : ℕ → Sized → Result Content AsmFault
content_after past None = Err (Syntax past)
content_after past (Some start) = with_lines (only_size start.0) start.1

-- What EEPROM source defines, or its first faulty line.
unfoldable pub content_of : List ℕ → Result Content AsmFault
content_of text = sized (lines_of text) then content_after (length (lines_of text) + 1)
