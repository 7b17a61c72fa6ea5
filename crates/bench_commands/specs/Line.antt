-- A reply as a line of text: the reply's name and its parts.
use Rattle.std.specs.Prelude.{ℕ, ◌++◌, List, codes, decimal}
use Rattle.text_format.specs.Bytes.{bytes_text}
use Rattle.text_format.specs.Word.{address_text, word_text}
use Rattle.bench_commands.specs.Reply.{slot_text}
use Rattle.bench_commands.specs.declared.reply.Line.{Line}
use Rattle.bench_commands.specs.declared.reply.Part.{Part}
use Rattle.bench_commands.specs.declared.reply.Part.TheVariants.{Bytes, Named, NotLent, Number, Numbered, Slot, Word}
use Rattle.bench_commands.specs.declared.reply.Parts.{Parts}
use Rattle.bench_commands.specs.declared.reply.Parts.TheVariants.{One, Two, Zero}

-- A part as text.
abbrev pub part_text : Part → List ℕ
part_text (Named name) = name.now
part_text (Number number) = decimal number
part_text (Numbered name number) = name.now ++ (codes " " ++ decimal number)
part_text (Word word) = word_text word
part_text (Bytes bytes) = bytes_text bytes.now
part_text (Slot queue slot) = slot_text queue slot
part_text (NotLent address) = codes "not lent " ++ address_text address

-- A name, followed by the parts.
abbrev pub with_parts : List ℕ → Parts → List ℕ
with_parts name Zero = name
with_parts name (One a) = name ++ (codes " " ++ part_text a)
with_parts name (Two a b) = name ++ (codes " " ++ (part_text a ++ (codes " " ++ part_text b)))

-- A line as text.
abbrev pub line_text : Line → List ℕ
line_text line = with_parts line.0.now line.1
