-- The lines of EEPROM source define a valid size, and numbers that fit.
use Rattle.std.proofs.Common.{◌≡◌, ℕ, ◌+◌, ◌*◌, ◌%◌, ◌<◌, true, List, [], ◌∷◌, ◌++◌, length, Some, None, Result, Ok, Err, refl, subst}
use Rattle.std.specs.Prelude.{IsTrue}
use Rattle.std.specs.List.{AllByRecursion}
use Rattle.text_format.specs.Lines.{NumberedLine, lines_of}
use Rattle.eeprom_image.specs.Image.{is_size}
use Rattle.eeprom_image.specs.Line.{text_line}
use Rattle.eeprom_image.specs.Content.{Content, Sized, only_size, with_line, with_lines, sized_by, sized, content_after, content_of, ◌then◌}
use Rattle.eeprom_image.specs.declared.line.TextLine.{TextLine}
use Rattle.eeprom_image.specs.declared.line.TextLine.TheVariants.{Empty, Size, Word, Csr, Malformed}
use Rattle.eeprom_image.specs.declared.text.AsmFault.{AsmFault}
use Rattle.eeprom_image.proofs.LineContents.{IsLine, IsLine-text_line}

-- What holds for all content that EEPROM source can define.
pub record IsContent (content : Content) : Type 0 where
  pub size : IsTrue (is_size content.size)
  pub words : AllByRecursion (λ given. given.1 < 65536) content.words
  pub triples : AllByRecursion (λ triple. (triple.0 % 4 ≡ 0) × (triple.0 < 0x40000) × (triple.1 < 65536 * 65536))
      content.triples

all_push : (P : ℕ × ℕ → Type 0) (xs : List (ℕ × ℕ)) (x : ℕ × ℕ) → AllByRecursion P xs → P x
    → AllByRecursion P (xs ++ (x ∷ []))
all_push P [] x h p = (p, tt)
all_push P (y ∷ ys) x h p = (h.0, all_push P ys x h.1 p)

with_line-keeps : (content : Content) (number : ℕ) (line : TextLine) (after : Content) → IsContent content → IsLine line
    → with_line content number line ≡ Ok after → IsContent after
with_line-keeps content number Empty after h k is = let P : Content → Type 0 = λ c. IsContent c in
    let e : content ≡ after = cc in subst P e h
with_line-keeps content number (Size size) after h k is = absurd (let no : ⊥ = cc in no)
with_line-keeps content number (Word index value) after h k is =
    let P : Content → Type 0 = λ c. IsContent c in
    let e : record content { words = content.words ++ ((index, value) ∷ []) } ≡ after = cc in
    subst P e (record {
      size = h.size;
      words =
          all_push (λ given. given.1 < 65536) content.words (index, value) h.words k;
      triples = h.triples;
    })
with_line-keeps content number (Csr offset value) after h k is =
    let P : Content → Type 0 = λ c. IsContent c in
    let e : record content { triples = content.triples ++ ((offset, value) ∷ []) } ≡ after = cc in
    subst P e (record {
      size = h.size;
      words = h.words;
      triples =
          all_push (λ triple. (triple.0 % 4 ≡ 0) × (triple.0 < 0x40000) × (triple.1 < 65536 * 65536)) content.triples
          (offset, value) h.triples k;
    })
with_line-keeps content number Malformed after h k is = absurd (let no : ⊥ = cc in no)

after_line : (r : Result Content AsmFault) (lines : List NumberedLine) (after : Content)
    → ((more : Content) → r ≡ Ok more → IsContent more)
    → ((more : Content) → IsContent more → with_lines more lines ≡ Ok after → IsContent after)
    → (r then λ more. with_lines more lines) ≡ Ok after → IsContent after
after_line (Ok more) lines after first rest is = rest more (first more refl) is
after_line (Err fault) lines after first rest is = absurd (let no : ⊥ = cc in no)

with_lines-keeps : (content : Content) (lines : List NumberedLine) (after : Content) → IsContent content
    → with_lines content lines ≡ Ok after → IsContent after
unfolding with_lines
with_lines-keeps content [] after h is = let P : Content → Type 0 = λ c. IsContent c in let e : content ≡ after = cc in
    subst P e h
with_lines-keeps content (line ∷ lines) after h is =
    after_line (with_line content line.number (text_line line.text)) lines after
    (λ more e. with_line-keeps content line.number (text_line line.text) more h (IsLine-text_line line.text) e)
    (λ more k e. with_lines-keeps more lines after k e) is

IsContent-only_size : (size : ℕ) → is_size size ≡ true → IsContent (only_size size)
IsContent-only_size size right = record { size = right; words = tt; triples = tt }

-- The size at the start of EEPROM source is valid.
abbrev IsSized : Result Sized AsmFault → Type 0
IsSized (Ok None) = Unit {0}
IsSized (Ok (Some start)) = is_size start.0 ≡ true
IsSized (Err fault) = Unit {0}

sized_by-right : (line : TextLine) (number : ℕ) (lines : List NumberedLine) (later : Result Sized AsmFault)
    → IsLine line → IsSized later → IsSized (sized_by line number lines later)
sized_by-right Empty number lines later k h = h
sized_by-right (Size size) number lines later k h = k
sized_by-right (Word index value) number lines later k h = tt
sized_by-right (Csr offset value) number lines later k h = tt
sized_by-right Malformed number lines later k h = tt

sized-right : (lines : List NumberedLine) → IsSized (sized lines)
unfolding sized
sized-right [] = tt
sized-right (line ∷ lines) = sized_by-right (text_line line.text) line.number lines (sized lines)
    (IsLine-text_line line.text) (sized-right lines)

after_size : (start : Result Sized AsmFault) (past : ℕ) (content : Content) → IsSized start
    → (start then content_after past) ≡ Ok content → IsContent content
after_size (Ok None) past content h is = absurd (let no : ⊥ = cc in no)
after_size (Ok (Some start)) past content h is =
    with_lines-keeps (only_size start.0) start.1 content (IsContent-only_size start.0 h) is
after_size (Err fault) past content h is = absurd (let no : ⊥ = cc in no)

-- What EEPROM source defines is valid.
pub content_of-right : (text : List ℕ) (content : Content) → content_of text ≡ Ok content → IsContent content
unfolding content_of
content_of-right text content is =
    after_size (sized (lines_of text)) (length (lines_of text) + 1) content (sized-right (lines_of text)) is
