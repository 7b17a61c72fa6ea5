-- Proves that a program's source means that program.
use Rattle.std.proofs.Common.{◌≡◌, refl, sym, ◌∙◌, ℕ, zero, suc, ◌==◌, ◌<◌, Bool, true, false, ◌||◌, List, [], ◌∷◌, length, map, arith, eq-eqb}
use Rattle.std.specs.Str.Lines.{lines}
use Rattle.program.specs.declared.instruction.Instruction.{Instruction as Step}
use Rattle.program.specs.declared.instruction.Instruction.TheVariants.{Poke, Arrive, JumpIfEqual, JumpUnlessEqual, Jump}
use Rattle.script_asm.specs.Prelude.{AllByRecursion, IsListing, IsSound, Listing, lines_of, string_at}
use Rattle.script_asm.specs.Disassembly.{jumps_to, is_target, code_lines, text_of}
use Rattle.script_asm.specs.Laws.{label_from, data_from, Means, Mean, IsSaid}
use Rattle.script_asm.specs.ReadBack.{HasWidths, TextsReadBack}
use Rattle.script_asm.proofs.Meaning.{program_is_what_lines_say}
use Rattle.script_asm.proofs.Fitting.{statements_of, Fit-statements}
use Rattle.script_asm.proofs.Placed.{strings_in-statements, drafts_in-statements, data_number, label_place}
use Rattle.script_asm.proofs.Spelling.{named}
use Rattle.script_asm.proofs.Texts.{Reads, reads-data}
use Rattle.script_asm.proofs.CodeTexts.{code_statements, reads-code, reading_of-numbered}

-- Each number that this instruction jumps to is a jump target in the program, so it has a label.
abbrev Targets : List (Step ℕ ℕ) → Step ℕ ℕ → Type 0
Targets code i = (m : ℕ) → jumps_to m i ≡ true → is_target code m ≡ true

or_true : (a b : Bool) → b ≡ true → (a || b) ≡ true
or_true true b e = refl
or_true false b e = e

first_true : (a b : Bool) → a ≡ true → (a || b) ≡ true
first_true true b e = refl
first_true false b e = cc

more_targets : (i : Step ℕ ℕ) (code rest : List (Step ℕ ℕ)) → AllByRecursion (Targets code) rest
    → AllByRecursion (Targets (i ∷ code)) rest
more_targets i code [] all = tt
more_targets i code (j ∷ more) all =
    (λ m e. or_true (jumps_to m i) (is_target code m) (all.0 m e), more_targets i code more all.1)

all_targets : (code : List (Step ℕ ℕ)) → AllByRecursion (Targets code) code
all_targets [] = tt
all_targets (i ∷ more) = (
  λ m e. first_true (jumps_to m i) (is_target more m) e,
  more_targets i more more (all_targets more),
)

-- A 16-byte data string exists.
there : (strings : List (List ℕ)) (number : ℕ) → length (string_at strings number) ≡ 16 → number < length strings
there [] number long = absurd (omega (arith, long))
there (string ∷ more) zero long = omega arith
there (string ∷ more) (suc number) long = let below = there more number long in omega (arith, below)

itself : (m : ℕ) → (m == m) ≡ true
itself m = eq-eqb m m refl

means : (p : Listing) (i : Step ℕ ℕ) → IsListing p → IsSound p.strings (length p.instructions) i
    → Targets p.instructions i
    → Means (label_from 0 (statements_of p)) (data_from 0 (statements_of p)) p.strings (named i) i
means p (Poke address number) is sound targets =
    (number, refl, data_number p number is (there p.strings number sound), sound)
means p (Arrive number) is sound targets = (number, refl, data_number p number is sound)
means p (JumpIfEqual word pc) is sound targets = (pc, refl, label_place p pc is sound (targets pc (itself pc)))
means p (JumpUnlessEqual word pc) is sound targets = (pc, refl, label_place p pc is sound (targets pc (itself pc)))
means p (Jump pc) is sound targets = (pc, refl, label_place p pc is sound (targets pc (itself pc)))
means p other is sound targets = refl

mean : (p : Listing) (rest : List (Step ℕ ℕ)) → IsListing p
    → AllByRecursion (IsSound p.strings (length p.instructions)) rest → AllByRecursion (Targets p.instructions) rest
    → Mean (label_from 0 (statements_of p)) (data_from 0 (statements_of p)) p.strings (map named rest) rest
mean p [] is sound targets = tt
mean p (i ∷ more) is sound targets = (means p i is sound.0 targets.0, mean p more is sound.1 targets.1)

reads-text : (p : Listing) → IsListing p → HasWidths p → Reads (text_of p) (statements_of p)
unfolding text_of
reads-text p is widths =
    let few = is.few in
    let few_strings = is.few_strings in
    reads-data 0 p.strings (code_lines p.instructions 0 p.instructions)
    (code_statements p.instructions 0 p.instructions) (omega arith) is.strings widths.strings
    (reads-code p.strings (length p.instructions) p.instructions 0 p.instructions (omega arith) is.sound
    widths.instructions)

said : (p : Listing) → IsListing p → HasWidths p → IsSaid (text_of p) p
unfolding lines_of
said p is widths = record {
  statements = statements_of p;
  say = reading_of-numbered 1 (lines (text_of p)) ∙ (reads-text p is widths).is;
  fit = Fit-statements p is;
  strings = sym (strings_in-statements p);
  mean = rw (
    strings_in-statements p,
    drafts_in-statements p,
  ) (mean p p.instructions is is.sound (all_targets p.instructions));
}

pub texts_read_back : TextsReadBack
texts_read_back program is widths = (program_is_what_lines_say (text_of program) program).1 (said program is widths)
