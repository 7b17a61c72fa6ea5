-- Proves that the first fault in a script determines the result.
use Rattle.std.proofs.Common.{◌≡◌, ◌∙◌, ap, ℕ, List, [], ◌∷◌, ◌++◌, Result, Ok}
use Rattle.program.specs.declared.instruction.Instruction.{Instruction as Step}
use Rattle.script_asm.specs.Prelude.{NumberedLine}
use Rattle.script_asm.specs.Fault.{◌then◌}
use Rattle.script_asm.specs.Laws.{FirstFaultDecides}
use Rattle.script_asm.specs.Outline.{Outline, blank}
use Rattle.script_asm.specs.Resolved.{resolved, with_resolved}
use Rattle.script_asm.specs.Script.{with_line, with_lines, program_in, program_of}
use Rattle.script_asm.specs.declared.faults.ScriptFault.{ScriptFault}
use Rattle.script_asm.specs.declared.sheet.DraftLine.{DraftLine}
use Rattle.script_asm.proofs.Outcomes.{stepped}

with_lines-append : (b o : Outline) (front back : List NumberedLine) → with_lines b front ≡ Ok o
    → with_lines b (front ++ back) ≡ with_lines o back
unfolding with_lines
with_lines-append b o [] back e = let same : b ≡ o = cc in ap (λ x. with_lines x back) same
with_lines-append b o (line ∷ front) back e =
    let next = stepped (with_line b line) (λ a. with_lines a front) o e in
    ap (λ r. r then λ a. with_lines a (front ++ back)) next.1 ∙ with_lines-append next.0 o front back next.2

with_resolved-append : (o : Outline) (before after : List (Step ℕ ℕ)) (front back : List DraftLine)
    → with_resolved o before front ≡ Ok after
    → with_resolved o before (front ++ back) ≡ with_resolved o after back
unfolding with_resolved
with_resolved-append o before after [] back e = let same : before ≡ after = cc in ap (λ x. with_resolved o x back) same
with_resolved-append o before after (d ∷ front) back e =
    let next = stepped (resolved o d.line d.draft) (λ i. with_resolved o (before ++ i ∷ []) front) after e in
    ap (λ r. r then λ i. with_resolved o (before ++ i ∷ []) (front ++ back)) next.1
    ∙ with_resolved-append o (before ++ next.0 ∷ []) after front back next.2

pub first_fault_decides : FirstFaultDecides
unfolding program_of with_lines with_resolved
first_fault_decides = record {
  lines = λ text front line back outline fault is before faulty.
      ap (λ r. r then program_in)
      (ap (with_lines blank) is ∙ with_lines-append blank outline front (line ∷ back) before
      ∙ ap (λ r. r then λ a. with_lines a back) faulty);
  names = λ text outline front d back instructions fault said is before faulty.
      ap (λ r. r then program_in) said
      ∙ ap (λ (is : Result (List (Step ℕ ℕ)) ScriptFault). is
      then λ is. Ok (record { strings = outline.strings; instructions = is }))
      (ap (with_resolved outline []) is ∙ with_resolved-append outline [] instructions front (d ∷ back) before
      ∙ ap (λ r. r then λ i. with_resolved outline (instructions ++ i ∷ []) back) faulty);
}
