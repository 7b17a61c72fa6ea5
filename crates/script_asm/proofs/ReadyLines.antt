-- Proves by induction over the lines that the outline of all lines can be resolved to a program.
use Rattle.std.proofs.Common.{◌≡◌, subst, ℕ, List, [], ◌∷◌, Result, Ok, Err, IfOk}
use Rattle.script_asm.specs.Prelude.{NumberedLine, words_of}
use Rattle.script_asm.specs.Fault.{◌then◌, at_line}
use Rattle.script_asm.specs.Outline.{Outline, blank}
use Rattle.script_asm.specs.Resolved.{IsReady}
use Rattle.script_asm.specs.Script.{with_line, with_lines, with_statement}
use Rattle.script_asm.specs.Statement.{statement_of}
use Rattle.script_asm.specs.declared.faults.LineFault.{LineFault}
use Rattle.script_asm.specs.declared.faults.ScriptFault.{ScriptFault}
use Rattle.script_asm.specs.declared.statements.Statement.{Statement}
use Rattle.script_asm.proofs.LineRanges.{States, statement_of-States}
use Rattle.script_asm.proofs.Ready.{ready-blank, with_statement-ready}

line-ready : (before : Outline) (number : ℕ) (r : Result Statement LineFault) → IfOk r States → IsReady before
    → IfOk (at_line number r then λ statement. with_statement before number statement) IsReady
line-ready before number (Ok s) states ready = with_statement-ready before number s states ready
line-ready before number (Err fault) states ready = tt

goes_on : (r : Result Outline ScriptFault) (lines : List NumberedLine) → IfOk r IsReady
    → ((after : Outline) → IsReady after → IfOk (with_lines after lines) IsReady)
    → IfOk (r then λ after. with_lines after lines) IsReady
goes_on (Ok after) lines ready rest = rest after ready
goes_on (Err fault) lines ready rest = tt

with_lines-ready : (before : Outline) (lines : List NumberedLine) → IsReady before
    → IfOk (with_lines before lines) IsReady
unfolding with_lines
with_lines-ready before [] ready = ready
with_lines-ready before (line ∷ more) ready =
    goes_on (with_line before line) more
    (line-ready before line.number (statement_of (words_of line.text)) (statement_of-States (words_of line.text))
    ready)
    (λ after is. with_lines-ready after more is)

pub text-ready : (lines : List NumberedLine) (outline : Outline) → with_lines blank lines ≡ Ok outline → IsReady outline
text-ready lines outline is = subst (λ (r : Result Outline ScriptFault). IfOk r IsReady) is
    (with_lines-ready blank lines ready-blank)
