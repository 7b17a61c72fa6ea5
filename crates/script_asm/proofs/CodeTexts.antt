-- Proves that the lines of a program's code read back as its statements.
use Rattle.std.proofs.Common.{◌≡◌, refl, sym, ap, subst, ℕ, ◌+◌, ◌<◌, ◌≤◌, Bool, true, false, cond, ◌==◌, List, [], ◌∷◌, ◌++◌, length, map, append_assoc, append-nil, Ok, arith}
use Rattle.std.specs.Prelude.{decimal}
use Rattle.text_format.specs.Lines.{numbered_from}
use Rattle.program.specs.declared.instruction.Instruction.{Instruction as Step}
use Rattle.script_asm.specs.Prelude.{AllByRecursion, HaveWidths, IsSound, fields_of}
use Rattle.script_asm.proofs.Prelude.{nat_tests}
use Rattle.script_asm.specs.Disassembly.{is_target, label_line, label_line_at, code_lines}
use Rattle.script_asm.specs.Laws.{reading_of}
use Rattle.script_asm.specs.Printing.{instruction_text}
use Rattle.script_asm.specs.Statement.{statement_of}
use Rattle.script_asm.specs.Target.{name_in}
use Rattle.script_asm.specs.declared.statements.Statement.{Statement}
use Rattle.script_asm.specs.declared.statements.Statement.TheVariants.{Label, Instruction}
use Rattle.script_asm.proofs.Endings.{before_last_byte-ended}
use Rattle.script_asm.proofs.Numerals.{name_in-numbered, IsWord-numbered}
use Rattle.script_asm.proofs.Plain.{is_plain, both_all}
use Rattle.script_asm.proofs.Reading.{reads}
use Rattle.script_asm.proofs.Spelling.{label_name, named, ReadsBack}
use Rattle.script_asm.proofs.Texts.{say, reads-line, Reads}

-- Lemmas about lines of code.
says-label : (name : List ℕ) → name_in (76 ∷ name) ≡ Ok (76 ∷ name)
    → statement_of ((76 ∷ name ++ 58 ∷ []) ∷ []) ≡ Ok (Label (76 ∷ name))
unfolding statement_of
says-label name x = rw (before_last_byte-ended 58 (76 ∷ name), x) refl

abbrev pub marks : List (Step ℕ ℕ) → ℕ → List Statement
marks code pc = cond (is_target code pc) (Label (label_name pc) ∷ []) []

abbrev pub code_statements : List (Step ℕ ℕ) → ℕ → List (Step ℕ ℕ) → List Statement
code_statements code pc [] = marks code pc
code_statements code pc (i ∷ more) = marks code pc ++ Instruction (named i) ∷ code_statements code (pc + 1) more

reads-label : (pc : ℕ) (rest : List ℕ) (ss : List Statement) → pc < 65536 → Reads rest ss
    → Reads (label_line pc ++ rest) (Label (label_name pc) ∷ ss)
reads-label pc rest ss small more =
    let word = IsWord-numbered 76 pc refl small in
    let words = (label_name pc ++ 58 ∷ []) ∷ [] in
    let long : (length (label_name pc ++ 58 ∷ []) == 0) ≡ false = grind (arith, nat_tests) in
    reads-line (label_line pc) words rest (Label (label_name pc)) ss
    (record { long = long; plain = both_all is_plain (label_name pc) (58 ∷ []) word.plain refl }, tt)
    (ap (λ t. 76 ∷ t) (sym (append_assoc (decimal pc) (58 ∷ []) (10 ∷ []))))
    (says-label (decimal pc) (name_in-numbered 76 pc refl small)) more

reads-marks_if : (b : Bool) (pc : ℕ) (rest : List ℕ) (ss : List Statement) → pc < 65536 → Reads rest ss
    → Reads (cond b (label_line pc) [] ++ rest) (cond b (Label (label_name pc) ∷ []) [] ++ ss)
reads-marks_if true pc rest ss small more = reads-label pc rest ss small more
reads-marks_if false pc rest ss small more = more

reads-instruction : (i : Step ℕ ℕ) (rest : List ℕ) (ss : List Statement) → ReadsBack i → Reads rest ss
    → Reads ((instruction_text i ++ 10 ∷ []) ++ rest) (Instruction (named i) ∷ ss)
reads-instruction i rest ss back more =
    reads-line (instruction_text i ++ 10 ∷ []) back.words rest (Instruction (named i)) ss back.are
    (ap (λ t. t ++ 10 ∷ []) back.text) back.says more

no_more : (xs : List ℕ) (ss : List Statement) → Reads (xs ++ []) (ss ++ []) → Reads xs ss
no_more xs ss h = subst (λ (t : List ℕ). Reads t ss) (append-nil xs)
    (subst (λ (s : List Statement). Reads (xs ++ []) s) (append-nil ss) h)

pub reads-code : (strings : List (List ℕ)) (count : ℕ) (code : List (Step ℕ ℕ)) (pc : ℕ) (rest : List (Step ℕ ℕ))
    → pc + length rest ≤ 4096
    → AllByRecursion (IsSound strings count) rest → AllByRecursion (λ i. HaveWidths (fields_of i)) rest
    → Reads (code_lines code pc rest) (code_statements code pc rest)
unfolding code_lines
reads-code strings count code pc [] few sound widths =
    no_more (label_line_at code pc) (marks code pc)
    (reads-marks_if (is_target code pc) pc [] [] (omega arith) (record { is = refl }))
reads-code strings count code pc (i ∷ more) few sound widths =
    let after = reads-code strings count code (pc + 1) more (omega arith) sound.1 widths.1 in
    let here = reads-instruction i (code_lines code (pc + 1) more) (code_statements code (pc + 1) more)
    (reads strings count i sound.0 widths.0) after in
    let all = reads-marks_if (is_target code pc) pc _ _ (omega arith) here in
    subst (λ (t : List ℕ). Reads t (code_statements code pc (i ∷ more)))
    (sym (append_assoc (label_line_at code pc) (instruction_text i ++ 10 ∷ []) (code_lines code (pc + 1) more))) all

-- Numbering lines doesn't change the statements that they read as.
pub reading_of-numbered : (first : ℕ) (ls : List (List ℕ)) → map reading_of (numbered_from first ls) ≡ map say ls
reading_of-numbered first [] = refl
reading_of-numbered first (line ∷ more) = ap (λ rs. say line ∷ rs) (reading_of-numbered (first + 1) more)
