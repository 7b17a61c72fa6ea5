-- Lemmas about reading one more line of a script.
use Rattle.std.proofs.Common.{◌≡◌, refl, List, [], ◌∷◌, Result, Ok, Err}
use Rattle.script_asm.specs.Prelude.{NumberedLine}
use Rattle.script_asm.specs.Fault.{◌then◌}
use Rattle.script_asm.specs.Outline.{Outline}
use Rattle.script_asm.specs.Script.{with_line, with_lines}
use Rattle.script_asm.specs.declared.faults.ScriptFault.{ScriptFault}

kept : (here : Result Outline ScriptFault) (after : Outline) (f : Outline → Result Outline ScriptFault)
    → here ≡ Ok after → (here then f) ≡ f after
kept here after f e = rw e refl

stopped : (here : Result Outline ScriptFault) (fault : ScriptFault) (f : Outline → Result Outline ScriptFault)
    → here ≡ Err fault → (here then f) ≡ Err fault
stopped here fault f e = rw e refl

-- After a line was added, the remaining lines are read into the resulting outline.
pub with_lines-added : (before after : Outline) (lines : List NumberedLine) (line : NumberedLine)
    (more : List NumberedLine) → lines ≡ line ∷ more
    → with_line before line ≡ Ok after → with_lines before lines ≡ with_lines after more
unfolding with_lines
with_lines-added before after lines line more first e =
    rw first (kept (with_line before line) after (λ o. with_lines o more) e)

-- A faulty line determines the result.
pub with_lines-stopped : (before : Outline) (fault : ScriptFault) (lines : List NumberedLine) (line : NumberedLine)
    (more : List NumberedLine) → lines ≡ line ∷ more
    → with_line before line ≡ Err fault → with_lines before lines ≡ Err fault
unfolding with_lines
with_lines-stopped before fault lines line more first e =
    rw first (stopped (with_line before line) fault (λ o. with_lines o more) e)

-- If no line remains, everything is read.
pub with_lines-ended : (before : Outline) (lines : List NumberedLine) → lines ≡ [] → with_lines before lines ≡ Ok before
unfolding with_lines
with_lines-ended before lines none = rw none refl
