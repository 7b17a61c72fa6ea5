-- If fields encode an instruction, this instruction is encoded by the same fields.
use Rattle.std.proofs.Common.{◌≡◌, ℕ, ◌+◌, ◌==◌, Bool, true, false, cond, ◌&&◌, List, [], ◌∷◌, map, Option, Some, None, Result, Ok, Err, refl, sym, ap, ◌∙◌, eqb-true}
use Rattle.std.proofs.lemmas.Bool.{and_parts}
use Rattle.program.specs.declared.fault.ObjectFault.{ObjectFault}
use Rattle.program.specs.declared.fields.Fields.{Fields}
use Rattle.program.specs.declared.instruction.Instruction.{Instruction}
use Rattle.program.specs.declared.meaning.FieldFault.{FieldFault}
use Rattle.program.specs.declared.meaning.FieldFault.TheVariants.{Operand}
use Rattle.program.specs.Encoding.{fields, fields_of, same_fields}
use Rattle.program.specs.Meaning.{meaning, instruction_in, spelled_so, unless_faulty, fault_in}
use Rattle.program.specs.Mapped.{◌then◌}
use Rattle.program.specs.Object.{meanings, at_pc, before_instructions}

pub same_fields-are : (f g : Fields) → same_fields f g ≡ true → f ≡ g
same_fields-are f g same =
    let four = and_parts (f.op == g.op && f.sub == g.sub && f.x == g.x && f.a == g.a) (f.b == g.b) same in
    let three = and_parts (f.op == g.op && f.sub == g.sub && f.x == g.x) (f.a == g.a) four.0 in
    let two = and_parts (f.op == g.op && f.sub == g.sub) (f.x == g.x) three.0 in
    let one = and_parts (f.op == g.op) (f.sub == g.sub) two.0 in
    let op = eqb-true f.op g.op one.0 in
    let sub = eqb-true f.sub g.sub one.1 in
    let x = eqb-true f.x g.x two.1 in
    let a = eqb-true f.a g.a three.1 in
    let b = eqb-true f.b g.b four.1 in
    λ i. fields (op i) (sub i) (x i) (a i) (b i)

ok_ok : {A E : Type 0} {x y : A} → ◌≡◌ {A = Result A E} (Ok x) (Ok y) → x ≡ y
ok_ok is = cc

err_ok : {A E P : Type 0} {x : A} {e : E} → ◌≡◌ {A = Result A E} (Err e) (Ok x) → P
err_ok is = cc

not_faulty : (i j : Instruction ℕ ℕ) (fault : Option FieldFault) → unless_faulty i fault ≡ Ok j → i ≡ j
not_faulty i j None is = ok_ok is
not_faulty i j (Some fault) is = err_ok is

checked : (f : Fields) (i j : Instruction ℕ ℕ) (same : Bool) (fault : Option FieldFault)
    → same_fields (fields_of i) f ≡ same →
    cond same (unless_faulty i fault) (Err Operand) ≡ Ok j → f ≡ fields_of j
checked f i j true fault same is = sym (same_fields-are (fields_of i) f same) ∙ ap fields_of (not_faulty i j fault is)
checked f i j false fault same is = err_ok is

spelled : (strings : List (List ℕ)) (count : ℕ) (f : Fields) (i : Option (Instruction ℕ ℕ)) (j : Instruction ℕ ℕ) →
    spelled_so strings count f i ≡ Ok j → f ≡ fields_of j
spelled strings count f None j is = err_ok {E = FieldFault} is
spelled strings count f (Some i) j is = checked f i j (same_fields (fields_of i) f) (fault_in strings count i) refl is

pub meaning-spelled : (strings : List (List ℕ)) (count : ℕ) (f : Fields) (i : Instruction ℕ ℕ)
    → meaning strings count f ≡ Ok i → f ≡ fields_of i
meaning-spelled strings count f i is = spelled strings count f (instruction_in f) i is

-- If the fields encode instructions, these instructions are encoded by the same fields.
abbrev AreSpelled : List (List ℕ) → ℕ → ℕ → List Fields → Type 0
AreSpelled strings count pc all =
    (instructions : List (Instruction ℕ ℕ)) → meanings strings count pc all ≡ Ok instructions
    → all ≡ map fields_of instructions

pub meanings-spelled : (strings : List (List ℕ)) (count pc : ℕ) (all : List Fields)
    (instructions : List (Instruction ℕ ℕ)) →
    meanings strings count pc all ≡ Ok instructions → all ≡ map fields_of instructions
unfolding meanings
meanings-spelled strings count pc [] instructions is = ap (map fields_of) (ok_ok is)
meanings-spelled strings count pc (f ∷ more) instructions is =
    first (meaning strings count f) (meanings-spelled strings count (pc + 1) more) refl is
  where
    rest : AreSpelled strings count (pc + 1) more → (i : Instruction ℕ ℕ) → meaning strings count f ≡ Ok i
        → (r : Result (List (Instruction ℕ ℕ)) ObjectFault) →
        meanings strings count (pc + 1) more ≡ r → before_instructions i r ≡ Ok instructions
        → (f ∷ more) ≡ map fields_of instructions
    rest spelled i means (Err fault) read is = err_ok {E = ObjectFault} is
    rest spelled i means (Ok after) read is =
        let here = meaning-spelled strings count f i means in
        let others = spelled after read in
        ap (λ f. f ∷ more) here ∙ ap (λ more. fields_of i ∷ more) others ∙ ap (map fields_of) (ok_ok is)

    first : (r : Result (Instruction ℕ ℕ) FieldFault) → AreSpelled strings count (pc + 1) more
        → meaning strings count f ≡ r →
        at_pc pc r then (λ i. before_instructions i (meanings strings count (pc + 1) more)) ≡ Ok instructions →
        (f ∷ more) ≡ map fields_of instructions
    first (Err fault) spelled means is = err_ok {E = ObjectFault} is
    first (Ok i) spelled means is = rest spelled i means (meanings strings count (pc + 1) more) refl is
