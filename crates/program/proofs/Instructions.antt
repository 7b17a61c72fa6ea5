-- Lemmas about reading instructions one after another.
use Rattle.std.proofs.Common.{◌≡◌, ℕ, suc, ◌+◌, List, [], ◌∷◌, ◌++◌, drop, Result, Ok, Err, refl, sym, ap, ◌∙◌, append_assoc}
use Rattle.std.proofs.lemmas.List.{append-nil}
use Rattle.std.specs.List.{AllByRecursion}
use Rattle.program.specs.declared.instruction.Instruction.{Instruction}
use Rattle.program.specs.declared.fault.ObjectFault.{ObjectFault}
use Rattle.program.specs.Bytes.{fields_in}
use Rattle.program.specs.Meaning.{meaning}
use Rattle.program.specs.Mapped.{◌then◌}
use Rattle.program.specs.Object.{all_fields_in, meanings, at_pc, before_instructions}

abbrev pub Instructions : Type 0
Instructions = List (Instruction ℕ ℕ)

-- The instructions that were already read, followed by the result for the remaining instructions.
abbrev pub after : Instructions → Result Instructions ObjectFault → Result Instructions ObjectFault
after instructions more = more then λ more. Ok (instructions ++ more)

pub after-none : (more : Result Instructions ObjectFault) → after [] more ≡ more
after-none (Err fault) = refl
after-none (Ok more) = refl

after-one : (instructions : Instructions) (instruction : Instruction ℕ ℕ) (more : Result Instructions ObjectFault) →
    after instructions (before_instructions instruction more) ≡ after (instructions ++ instruction ∷ []) more
after-one instructions instruction (Err fault) = refl
after-one instructions instruction (Ok more) =
    ap (λ all. Ok all) (sym (append_assoc instructions (instruction ∷ []) more))

module _ (strings : List (List ℕ)) (count pc : ℕ) (instructions : Instructions) (left rest : ℕ) (bytes : List ℕ)
    (is : left ≡ suc rest) where
  -- The result for the next instruction, followed by the result for the instructions after it.
  abbrev next : Result (Instruction ℕ ℕ) ObjectFault → Result Instructions ObjectFault
  next first = after instructions (first
      then λ i. before_instructions i (meanings strings count (pc + 1) (all_fields_in rest (drop 12 bytes))))

  next-is : after instructions (meanings strings count pc (all_fields_in left bytes))
      ≡ next (at_pc pc (meaning strings count (fields_in bytes)))
  unfolding meanings all_fields_in
  next-is = ap (λ left. after instructions (meanings strings count pc (all_fields_in left bytes))) is

  pub after-more : (instruction : Instruction ℕ ℕ)
      → Ok instruction ≡ at_pc pc (meaning strings count (fields_in bytes)) →
      after instructions (meanings strings count pc (all_fields_in left bytes))
      ≡ after (instructions ++ instruction ∷ []) (meanings strings count (pc + 1) (all_fields_in rest (drop 12 bytes)))
  after-more instruction first = next-is ∙ ap next (sym first) ∙ after-one instructions instruction _

  pub after-stopped : (fault : ObjectFault) → Err fault ≡ at_pc pc (meaning strings count (fields_in bytes)) →
      after instructions (meanings strings count pc (all_fields_in left bytes)) ≡ Err fault
  after-stopped fault first = next-is ∙ ap next (sym first)

pub after-all : (strings : List (List ℕ)) (count pc : ℕ) (instructions : Instructions) (bytes : List ℕ) →
    after instructions (meanings strings count pc (all_fields_in 0 bytes)) ≡ Ok instructions
unfolding meanings all_fields_in
after-all strings count pc instructions bytes = rw (append-nil instructions) refl

pub AllByRecursion-push : {X : Type 0} (P : X → Type 0) (xs : List X) (x : X) → AllByRecursion P xs → P x
    → AllByRecursion P (xs ++ x ∷ [])
AllByRecursion-push P [] x all here = (here, tt)
AllByRecursion-push P (y ∷ xs) x all here = (all.0, AllByRecursion-push P xs x all.1 here)
