-- Proves that the statements in a program's source fit, and that the names in it have the program's numbers.
use Rattle.std.proofs.Common.{◌≡◌, refl, sym, ◌∙◌, ap, ℕ, ◌+◌, ◌<◌, ◌≤◌, Bool, true, false, List, [], ◌∷◌, ◌++◌, length, map, append-nil, Some, arith, inl, inr}
use Rattle.program.specs.declared.instruction.Instruction.{Instruction as Step}
use Rattle.script_asm.specs.Prelude.{IsListing, Listing, bytes_eq}
use Rattle.script_asm.proofs.Prelude.{eqb_tells}
use Rattle.script_asm.specs.Disassembly.{is_target}
use Rattle.script_asm.specs.Laws.{strings_in, drafts_in, label_from, data_from}
use Rattle.script_asm.specs.declared.statements.Statement.{Statement}
use Rattle.script_asm.specs.declared.statements.Statement.TheVariants.{Instruction}
use Rattle.script_asm.proofs.Marks.{strings_in-append, drafts_in-append}
use Rattle.script_asm.proofs.Spelling.{label_name, data_name, named}
use Rattle.script_asm.proofs.Texts.{data_statements}
use Rattle.script_asm.proofs.CodeTexts.{code_statements}
use Rattle.script_asm.proofs.Fitting.{numbered_apart, same_name, mark, no_drafts, statements_of}

-- The data strings and the instructions among the statements.
strings_in-data : (number : ℕ) (strings : List (List ℕ)) → strings_in (data_statements number strings) ≡ strings
strings_in-data number [] = refl
strings_in-data number (string ∷ more) = ap (λ ss. string ∷ ss) (strings_in-data (number + 1) more)

strings_in-mark : (b : Bool) (pc : ℕ) (ss : List Statement) → strings_in (mark b pc ++ ss) ≡ strings_in ss
strings_in-mark true pc ss = refl
strings_in-mark false pc ss = refl

no_strings : (code : List (Step ℕ ℕ)) (pc : ℕ) (rest : List (Step ℕ ℕ)) → strings_in (code_statements code pc rest) ≡ []
no_strings code pc [] = ap strings_in (sym (append-nil (mark (is_target code pc) pc)))
    ∙ strings_in-mark (is_target code pc) pc []
no_strings code pc (i ∷ more) =
    strings_in-mark (is_target code pc) pc (Instruction (named i) ∷ code_statements code (pc + 1) more)
    ∙ no_strings code (pc + 1) more

pub strings_in-statements : (program : Listing) → strings_in (statements_of program) ≡ program.strings
strings_in-statements program =
    strings_in-append (data_statements 0 program.strings) (code_statements program.instructions 0 program.instructions)
    ∙ ap (λ ss. strings_in (data_statements 0 program.strings) ++ ss)
    (no_strings program.instructions 0 program.instructions)
    ∙ append-nil (strings_in (data_statements 0 program.strings)) ∙ strings_in-data 0 program.strings

drafts_in-mark : (b : Bool) (pc : ℕ) (ss : List Statement) → drafts_in (mark b pc ++ ss) ≡ drafts_in ss
drafts_in-mark true pc ss = refl
drafts_in-mark false pc ss = refl

drafts_in-code : (code : List (Step ℕ ℕ)) (pc : ℕ) (rest : List (Step ℕ ℕ))
    → drafts_in (code_statements code pc rest) ≡ map named rest
drafts_in-code code pc [] = ap drafts_in (sym (append-nil (mark (is_target code pc) pc)))
    ∙ drafts_in-mark (is_target code pc) pc []
drafts_in-code code pc (i ∷ more) =
    drafts_in-mark (is_target code pc) pc (Instruction (named i) ∷ code_statements code (pc + 1) more)
    ∙ ap (λ ds. named i ∷ ds) (drafts_in-code code (pc + 1) more)

pub drafts_in-statements : (program : Listing) → drafts_in (statements_of program) ≡ map named program.instructions
drafts_in-statements program =
    drafts_in-append (data_statements 0 program.strings) (code_statements program.instructions 0 program.instructions)
    ∙ ap (λ ds. ds ++ drafts_in (code_statements program.instructions 0 program.instructions))
    (no_drafts 0 program.strings)
    ∙ drafts_in-code program.instructions 0 program.instructions

-- The numbers of data names and labels among the statements.
data-found : (n : ℕ) (strings : List (List ℕ)) (ss : List Statement) (m : ℕ) → n ≤ m → m < n + length strings
    → n + length strings ≤ 1024
    → data_from n (data_statements n strings ++ ss) (data_name m) ≡ Some m
data-found n [] ss m above below few = absurd (omega arith)
data-found n (string ∷ more) ss m above below few = elim (eqb_tells n m) [
  | inl (test, is) ↦ rw (ap (λ k. bytes_eq (data_name k) (data_name m)) is ∙ same_name (data_name m)) (ap Some is)
  | inr (test, other) ↦ rw (numbered_apart 100 n m (omega arith) (omega arith) other)
      (data-found (n + 1) more ss m (omega (arith, other)) (omega arith) (omega arith))
]

label_from-data : (k n : ℕ) (strings : List (List ℕ)) (ss : List Statement) (name : List ℕ)
    → label_from k (data_statements n strings ++ ss) name ≡ label_from k ss name
label_from-data k n [] ss name = refl
label_from-data k n (string ∷ more) ss name = label_from-data k (n + 1) more ss name

past-mark : (b : Bool) (pc m : ℕ) (ss : List Statement) → bytes_eq (label_name pc) (label_name m) ≡ false
    → label_from pc (mark b pc ++ ss) (label_name m) ≡ label_from pc ss (label_name m)
past-mark true pc m ss apart = rw apart refl
past-mark false pc m ss apart = refl

at-mark : (b : Bool) (pc m : ℕ) (ss : List Statement) → b ≡ true → pc ≡ m
    → label_from pc (mark b pc ++ ss) (label_name m) ≡ Some m
at-mark true pc m ss e is = rw (ap (λ k. bytes_eq (label_name k) (label_name m)) is ∙ same_name (label_name m))
    (ap Some is)
at-mark false pc m ss e is = cc

label-found : (code : List (Step ℕ ℕ)) (pc : ℕ) (rest : List (Step ℕ ℕ)) (m : ℕ) → pc ≤ m → m ≤ pc + length rest
    → pc + length rest ≤ 4096 → is_target code m ≡ true
    → label_from pc (code_statements code pc rest) (label_name m) ≡ Some m
label-found code pc [] m above below few target =
    let same : pc ≡ m = omega arith in
    ap (λ ss. label_from pc ss (label_name m)) (sym (append-nil (mark (is_target code pc) pc)))
    ∙ at-mark (is_target code pc) pc m [] (ap (is_target code) same ∙ target) same
label-found code pc (i ∷ more) m above below few target = elim (eqb_tells pc m) [
  | inl (test, is) ↦ at-mark (is_target code pc) pc m (Instruction (named i) ∷ code_statements code (pc + 1) more)
      (ap (is_target code) is ∙ target) is
  | inr (test, other) ↦
      past-mark (is_target code pc) pc m (Instruction (named i) ∷ code_statements code (pc + 1) more)
      (numbered_apart 76 pc m (omega arith) (omega arith) other)
      ∙ label-found code (pc + 1) more m (omega (arith, other)) (omega arith) (omega arith) target
]

pub data_number : (program : Listing) (m : ℕ) → IsListing program → m < length program.strings
    → data_from 0 (statements_of program) (data_name m) ≡ Some m
data_number program m is below =
    let few_strings = is.few_strings in
    data-found 0 program.strings (code_statements program.instructions 0 program.instructions) m (omega arith)
    (omega arith) (omega arith)

pub label_place : (program : Listing) (m : ℕ) → IsListing program → m ≤ length program.instructions
    → is_target program.instructions m ≡ true
    → label_from 0 (statements_of program) (label_name m) ≡ Some m
label_place program m is below target =
    let few = is.few in
    label_from-data 0 0 program.strings (code_statements program.instructions 0 program.instructions) (label_name m)
    ∙ label-found program.instructions 0 program.instructions m (omega arith) (omega arith) (omega arith) target
