-- Lemmas for proving that the statements in a program's source fit.
use Rattle.std.proofs.Common.{◌≡◌, ◌≢◌, refl, sym, ◌∙◌, ap, subst, ℕ, ◌+◌, ◌<◌, ◌≤◌, Bool, true, false, cond, List, [], ◌∷◌, ◌++◌, length, length-append, append_assoc, append-nil, None, arith}
use Rattle.std.specs.Prelude.{decimal}
use Rattle.std.proofs.lemmas.Bool.{false_from_ne_true}
use Rattle.std.proofs.lemmas.Fmt.{decimal_injective}
use Rattle.std.proofs.lemmas.Slice.Eq.{bytes_eq-Decides}
use Rattle.program.specs.declared.instruction.Instruction.{Instruction as Step}
use Rattle.script_asm.specs.Prelude.{AllByRecursion, IsDataString, IsListing, Listing, bytes_eq}
use Rattle.script_asm.specs.Disassembly.{is_target}
use Rattle.script_asm.specs.Laws.{strings_in, drafts_in, label_from, data_from, Fit}
use Rattle.script_asm.specs.Operation.{Draft}
use Rattle.script_asm.specs.declared.statements.Statement.{Statement}
use Rattle.script_asm.specs.declared.statements.Statement.TheVariants.{Label, Data, Instruction}
use Rattle.script_asm.proofs.Marks.{strings_in-append, drafts_in-append, label_from-append, data_from-append}
use Rattle.script_asm.proofs.Spelling.{label_name, data_name, named}
use Rattle.script_asm.proofs.Texts.{data_statements}
use Rattle.script_asm.proofs.CodeTexts.{code_statements}

-- Names made from different numbers are different.
pub numbered_apart : (letter m n : ℕ) → m < 65536 → n < 65536 → m ≢ n
    → bytes_eq (letter ∷ decimal m) (letter ∷ decimal n) ≡ false
numbered_apart letter m n small less apart =
    false_from_ne_true (bytes_eq (letter ∷ decimal m) (letter ∷ decimal n)) (λ same.
    let is : letter ∷ decimal m ≡ letter ∷ decimal n =
    (bytes_eq-Decides (letter ∷ decimal m) (letter ∷ decimal n)).0 same in
    let digits : decimal m ≡ decimal n = cc in
    apart (decimal_injective m n (omega arith) (omega arith) digits))

pub same_name : (name : List ℕ) → bytes_eq name name ≡ true
same_name name = (bytes_eq-Decides name name).1 refl

-- If statements fit, and more statements fit after them, then all of them fit.
pub Fit-append : (before xs ys : List Statement) → Fit before xs → Fit (before ++ xs) ys → Fit before (xs ++ ys)
Fit-append before [] ys fit more = subst (λ (b : List Statement). Fit b ys) (append-nil before) more
Fit-append before (x ∷ xs) ys fit more = (
  fit.0,
  Fit-append (before ++ x ∷ []) xs ys fit.1
      (subst (λ (b : List Statement). Fit b ys) (sym (append_assoc before (x ∷ []) xs)) more),
)

-- No data string has a name with this number or a higher one.
abbrev pub NoData : List Statement → ℕ → Type 0
NoData before number = (m : ℕ) → number ≤ m → m < 65536 → data_from 0 before (data_name m) ≡ None

pub data-after : (before : List Statement) (number : ℕ) (string : List ℕ) → number < 65536 → NoData before number
    → NoData (before ++ Data (data_name number) string ∷ []) (number + 1)
data-after before number string small none m above less =
    data_from-append 0 before (Data (data_name number) string ∷ []) (data_name m)
    ∙ rw (none m (omega arith) less, numbered_apart 100 number m small less (λ e. absurd (omega (arith, e)))) refl

pub count-after : (before : List Statement) (s : Statement)
    → length (strings_in (before ++ s ∷ [])) ≡ length (strings_in before) + length (strings_in (s ∷ []))
count-after before s = ap length (strings_in-append before (s ∷ []))
    ∙ length-append (strings_in before) (strings_in (s ∷ []))

pub Fit-data : (before : List Statement) (number : ℕ) (strings : List (List ℕ)) → NoData before number
    → length (strings_in before) ≡ number → number + length strings ≤ 1024
    → AllByRecursion IsDataString strings → Fit before (data_statements number strings)
Fit-data before number [] none count few are = tt
Fit-data before number (string ∷ more) none count few are =
    let small : number < 65536 = omega arith in
    let short = are.0.short in (
      (none number (omega arith) small, short, omega arith),
      Fit-data (before ++ Data (data_name number) string ∷ []) (number + 1) more
          (data-after before number string small none)
          (count-after before (Data (data_name number) string) ∙ omega (arith, count)) (omega arith) are.1,
    )

-- No label has a name with this number or a higher one.
abbrev pub NoLabel : List Statement → ℕ → Type 0
NoLabel before pc = (m : ℕ) → pc ≤ m → m < 65536 → label_from 0 before (label_name m) ≡ None

abbrev pub mark : Bool → ℕ → List Statement
mark b pc = cond b (Label (label_name pc) ∷ []) []

pub marked : (before : List Statement) (b : Bool) (pc : ℕ) → pc < 65536 → NoLabel before pc
    → NoLabel (before ++ mark b pc) (pc + 1)
marked before true pc small none m above less =
    label_from-append 0 before (Label (label_name pc) ∷ []) (label_name m)
    ∙ rw (none m (omega arith) less, numbered_apart 76 pc m small less (λ e. absurd (omega (arith, e)))) refl
marked before false pc small none m above less = rw (append-nil before) (none m (omega arith) less)

pub marked-drafts : (before : List Statement) (b : Bool) (pc : ℕ)
    → length (drafts_in (before ++ mark b pc)) ≡ length (drafts_in before)
marked-drafts before true pc =
    ap length (drafts_in-append before (Label (label_name pc) ∷ []) ∙ append-nil (drafts_in before))
marked-drafts before false pc = ap (λ (ss : List Statement). length (drafts_in ss)) (append-nil before)

pub Fit-mark : (before : List Statement) (b : Bool) (pc : ℕ) → pc < 65536 → NoLabel before pc → Fit before (mark b pc)
Fit-mark before true pc small none = (none pc (omega arith) small, tt)
Fit-mark before false pc small none = tt

pub instructed : (before : List Statement) (d : Draft) (pc : ℕ) → NoLabel before pc
    → NoLabel (before ++ Instruction d ∷ []) pc
instructed before d pc none m above less =
    label_from-append 0 before (Instruction d ∷ []) (label_name m) ∙ rw (none m above less) refl

pub instructed-drafts : (before : List Statement) (d : Draft)
    → length (drafts_in (before ++ Instruction d ∷ [])) ≡ length (drafts_in before) + 1
instructed-drafts before d = ap length (drafts_in-append before (Instruction d ∷ []))
    ∙ length-append (drafts_in before) (d ∷ [])

pub Fit-code : (before : List Statement) (code : List (Step ℕ ℕ)) (pc : ℕ) (rest : List (Step ℕ ℕ)) → NoLabel before pc
    → length (drafts_in before) ≡ pc → pc + length rest ≤ 4096
    → Fit before (code_statements code pc rest)
Fit-code before code pc [] none count few = Fit-mark before (is_target code pc) pc (omega arith) none
Fit-code before code pc (i ∷ more) none count few =
    let small : pc < 65536 = omega arith in
    let marks = mark (is_target code pc) pc in
    let after = before ++ marks in
    let same = marked-drafts before (is_target code pc) pc in
    let here : length (drafts_in after) < 4096 = omega (arith, same, count) in
    Fit-append before marks (Instruction (named i) ∷ code_statements code (pc + 1) more)
    (Fit-mark before (is_target code pc) pc small none) (
      here,
      Fit-code (after ++ Instruction (named i) ∷ []) code (pc + 1) more
          (instructed after (named i) (pc + 1) (marked before (is_target code pc) pc small none))
          (instructed-drafts after (named i) ∙ omega (arith, same, count)) (omega arith),
    )

pub no_labels : (number : ℕ) (strings : List (List ℕ)) (n : ℕ) (name : List ℕ)
    → label_from n (data_statements number strings) name ≡ None
no_labels number [] n name = refl
no_labels number (string ∷ more) n name = no_labels (number + 1) more n name

pub no_drafts : (number : ℕ) (strings : List (List ℕ)) → drafts_in (data_statements number strings) ≡ []
no_drafts number [] = refl
no_drafts number (string ∷ more) = no_drafts (number + 1) more

-- All statements in a program's source.
abbrev pub statements_of : Listing → List Statement
statements_of program = data_statements 0 program.strings ++ code_statements program.instructions 0 program.instructions

pub Fit-statements : (program : Listing) → IsListing program → Fit [] (statements_of program)
Fit-statements program is =
    let few = is.few in
    let few_strings = is.few_strings in
    Fit-append [] (data_statements 0 program.strings) (code_statements program.instructions 0 program.instructions)
    (Fit-data [] 0 program.strings (λ m above less. refl) refl (omega arith) is.strings)
    (Fit-code (data_statements 0 program.strings) program.instructions 0 program.instructions
    (λ m above less. no_labels 0 program.strings 0 (label_name m)) (ap length (no_drafts 0 program.strings))
    (omega arith))
