-- The line of an instruction as text: the operation's name and the operands.
use Rattle.std.specs.Prelude.{ℕ, ◌++◌, List, codes, decimal}
use Rattle.script_asm.specs.Prelude.{word_text}
use Rattle.script_asm.specs.Printing.{target_text}
use Rattle.script_asm.specs.declared.printing.Line.{Line}
use Rattle.script_asm.specs.declared.printing.Operand.{Operand}
use Rattle.script_asm.specs.declared.printing.Operand.TheVariants.{Data, Label, Named, Target, Word}
use Rattle.script_asm.specs.declared.printing.Operands.{Operands}
use Rattle.script_asm.specs.declared.printing.Operands.TheVariants.{One, Three, Two, Zero}

-- An operand as text. Data strings and labels are printed by number.
abbrev pub operand_text : Operand → List ℕ
operand_text (Named name) = name.now
operand_text (Word word) = word_text word
operand_text (Target address) = target_text address
operand_text (Data number) = codes "d" ++ decimal number
operand_text (Label pc) = codes "L" ++ decimal pc

-- An operation's name, followed by the operands.
abbrev pub with_operands : List ℕ → Operands → List ℕ
with_operands name Zero = name
with_operands name (One a) = name ++ (codes " " ++ operand_text a)
with_operands name (Two a b) = name ++ (codes " " ++ (operand_text a ++ (codes " " ++ operand_text b)))
with_operands name (Three a b c) =
    name ++ (codes " " ++ (operand_text a ++ (codes " " ++ (operand_text b ++ (codes " " ++ operand_text c)))))

-- An instruction's line as text.
abbrev pub line_text : Line → List ℕ
line_text line = with_operands line.0.now line.1
