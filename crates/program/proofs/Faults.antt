-- The first faulty instruction determines the result.
use Rattle.std.proofs.Common.{◌≡◌, true, false, ℕ, suc, ◌+◌, List, [], ◌∷◌, ◌++◌, length, Result, Ok, Err, ap, ◌∙◌, arith}
use Rattle.std.specs.List.{AllByRecursion}
use Rattle.std.specs.Result.{IsOk}
use Rattle.program.specs.declared.fields.Fields.{Fields}
use Rattle.program.specs.declared.fault.ObjectFault.{ObjectFault}
use Rattle.program.specs.declared.instruction.Instruction.{Instruction}
use Rattle.program.specs.declared.meaning.FieldFault.{FieldFault}
use Rattle.program.specs.Meaning.{meaning}
use Rattle.program.specs.Mapped.{◌then◌}
use Rattle.program.specs.Object.{meanings, at_pc, fault_at, before_instructions}

-- If an instruction has no fault, the first fault of the instructions after it is the first fault of all of them.
after_one : (first : Result (Instruction ℕ ℕ) FieldFault) (pc : ℕ) (rest : Result (List (Instruction ℕ ℕ)) ObjectFault)
    (fault : ObjectFault) → IsOk first →
    rest ≡ Err fault → at_pc pc first then (λ i. before_instructions i rest) ≡ Err fault
after_one (Ok i) pc rest fault ok is = ap (before_instructions i) is
after_one (Err e) pc rest fault ok is = let no : false ≡ true = ok in cc

pub meanings-stopped : (strings : List (List ℕ)) (count pc : ℕ) (before : List Fields) (f : Fields)
    (after : List Fields) (fault : FieldFault) →
    AllByRecursion (λ g. IsOk (meaning strings count g)) before → meaning strings count f ≡ Err fault →
    meanings strings count pc (before ++ f ∷ after) ≡ Err (fault_at (pc + length before) fault)
unfolding meanings
meanings-stopped strings count pc [] f after fault good bad =
    let here : pc ≡ pc + 0 = omega arith in
    ap (λ first. at_pc pc first then λ i. before_instructions i (meanings strings count (pc + 1) after)) bad
    ∙ ap (λ pc. Err (fault_at pc fault)) here
meanings-stopped strings count pc (g ∷ before) f after fault good bad =
    let more = meanings-stopped strings count (pc + 1) before f after fault good.1 bad in
    let number : pc + 1 + length before ≡ pc + suc (length before) = omega arith in
    after_one (meaning strings count g) pc _ _ good.0 (more ∙ ap (λ pc. Err (fault_at pc fault)) number)
