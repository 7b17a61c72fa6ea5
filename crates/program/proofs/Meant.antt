-- Decoding the fields of a sound instruction returns that instruction.
use Rattle.std.proofs.Common.{◌≡◌, ℕ, ◌+◌, ◌%◌, ◌<◌, true, false, List, [], ◌∷◌, length, map, Some, None, Ok, Err, refl, ap, ◌∙◌, arith}
use Rattle.std.proofs.lemmas.Bool.{and_from, lt-ltb, le-leb, eq-eqb, cond-true}
use Rattle.std.specs.List.{AllByRecursion}
use Rattle.intr_unit.specs.declared.Group.TheVariants.{Vf}
use Rattle.dma_ring.specs.declared.Dir.TheVariants.{Rx, Tx}
use Rattle.program.specs.declared.fields.Fields.{Fields}
use Rattle.program.specs.declared.instruction.Instruction.{Instruction}
use Rattle.program.specs.declared.instruction.Instruction.TheVariants.{VfWrite, VfRead}
use Rattle.program.specs.declared.instruction.Instruction.TheVariants.{Poke, Peek, Arrive, IntStep}
use Rattle.program.specs.declared.instruction.Instruction.TheVariants.{QueueStep, Link}
use Rattle.program.specs.declared.instruction.Instruction.TheVariants.{JumpIfEqual, JumpUnlessEqual, Jump}
use Rattle.program.specs.declared.meaning.FieldFault.TheVariants.{Operand, Target}
use Rattle.program.specs.Encoding.{fields_of, same_fields}
use Rattle.program.specs.Listing.{IsSound, string_at}
use Rattle.program.specs.Meaning.{meaning, instruction_in, spelled_so, unless, unless_faulty, fault_in}
use Rattle.program.specs.Mapped.{◌then◌}
use Rattle.program.specs.Object.{meanings, at_pc, before_instructions}

low : (v : ℕ) → v < 63 → v % 256 ≡ v
low v small = omega arith

fields-said : (strings : List (List ℕ)) (count : ℕ) (i : Instruction ℕ ℕ) → IsSound strings count i
    → instruction_in (fields_of i) ≡ Some i
fields-said strings count (VfWrite function offset word) sound =
    ap (λ v. Some (VfWrite v offset word)) (low function sound)
fields-said strings count (VfRead function offset) sound = ap (λ v. Some (VfRead v offset)) (low function sound)
fields-said strings count (IntStep (Vf function)) sound = ap (λ v. Some (IntStep (Vf v))) (low function sound)
fields-said strings count (QueueStep Rx queue) sound = refl
fields-said strings count (QueueStep Tx queue) sound = refl
fields-said strings count (Link false) sound = refl
fields-said strings count (Link true) sound = refl
fields-said strings count other sound = refl

none-faulty : (strings : List (List ℕ)) (count : ℕ) (i : Instruction ℕ ℕ) → IsSound strings count i
    → fault_in strings count i ≡ None
none-faulty strings count (VfWrite function offset word) sound =
    ap (λ fits. unless fits Operand) (lt-ltb function 63 sound)
none-faulty strings count (VfRead function offset) sound = ap (λ fits. unless fits Operand) (lt-ltb function 63 sound)
none-faulty strings count (Poke address number) sound =
    ap (λ fits. unless fits Operand) (eq-eqb (length (string_at strings number)) 16 sound)
none-faulty strings count (Peek address word) sound = ap (λ fits. unless fits Operand) (lt-ltb word 4 sound)
none-faulty strings count (Arrive number) sound =
    ap (λ fits. unless fits Operand) (lt-ltb number (length strings) sound)
none-faulty strings count (IntStep (Vf function)) sound = ap (λ fits. unless fits Operand) (lt-ltb function 63 sound)
none-faulty strings count (JumpIfEqual word target) sound = ap (λ fits. unless fits Target) (le-leb target count sound)
none-faulty strings count (JumpUnlessEqual word target) sound =
    ap (λ fits. unless fits Target) (le-leb target count sound)
none-faulty strings count (Jump target) sound = ap (λ fits. unless fits Target) (le-leb target count sound)
none-faulty strings count other sound = refl

same_fields-same : (f : Fields) → same_fields f f ≡ true
same_fields-same f =
    and_from _ _ (and_from _ _ (and_from _ _ (and_from _ _ (eq-eqb f.op f.op refl) (eq-eqb f.sub f.sub refl))
    (eq-eqb f.x f.x refl))
    (eq-eqb f.a f.a refl)) (eq-eqb f.b f.b refl)

pub meaning-of : (strings : List (List ℕ)) (count : ℕ) (i : Instruction ℕ ℕ) → IsSound strings count i
    → meaning strings count (fields_of i) ≡ Ok i
meaning-of strings count i sound =
    ap (spelled_so strings count (fields_of i)) (fields-said strings count i sound)
    ∙ cond-true _ (unless_faulty i (fault_in strings count i)) (Err Operand) (same_fields-same (fields_of i))
    ∙ ap (unless_faulty i) (none-faulty strings count i sound)

pub meanings-of : (strings : List (List ℕ)) (count pc : ℕ) (all : List (Instruction ℕ ℕ))
    → AllByRecursion (IsSound strings count) all →
    meanings strings count pc (map fields_of all) ≡ Ok all
unfolding meanings
meanings-of strings count pc [] sound = refl
meanings-of strings count pc (i ∷ all) sound =
    ap (λ first. at_pc pc first then λ i. before_instructions i (meanings strings count (pc + 1) (map fields_of all)))
    (meaning-of strings count i sound.0)
    ∙ ap (before_instructions i) (meanings-of strings count (pc + 1) all sound.1)
