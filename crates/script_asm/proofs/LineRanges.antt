-- Proves that the numbers in every statement are in range.
use Rattle.std.proofs.Common.{◌≤◌, ℕ, cond, length, List, [], ◌∷◌, Option, Some, None, Ok, Err, IfOk, inl, inr, arith, eqb}
use Rattle.std.specs.Bool.{⊤}
use Rattle.script_asm.specs.Prelude.{hex_bytes_of, ok_or}
use Rattle.script_asm.proofs.Prelude.{eqb_tells}
use Rattle.script_asm.specs.Fault.{both}
use Rattle.script_asm.specs.Operation.{instruction_in}
use Rattle.script_asm.specs.Resolved.{IsInRange}
use Rattle.script_asm.specs.Statement.{bytes_in, label_in, data_in, label_or_instruction, statement_of}
use Rattle.script_asm.specs.Target.{name_in, before_last_byte}
use Rattle.script_asm.specs.declared.faults.LineFault.{LineFault}
use Rattle.script_asm.specs.declared.faults.LineFault.TheVariants.{Syntax}
use Rattle.script_asm.specs.declared.statements.Statement.{Statement}
use Rattle.script_asm.specs.declared.statements.Statement.TheVariants.{Empty, Label, Data, Instruction}
use Rattle.script_asm.proofs.Outcomes.{then-IfOk, then-IfOk_of, cond-IfOk, both-second}
use Rattle.script_asm.proofs.Ranges.{instruction_in-range}

-- Data contains at least one byte.
bytes_in-some : (word : List ℕ) → IfOk (bytes_in word) (λ bytes. 1 ≤ length bytes)
bytes_in-some word = then-IfOk (λ bytes. 1 ≤ length bytes) (ok_or (hex_bytes_of word) Syntax) _ some
  where
    some : (bytes : List ℕ) → IfOk {E =
        LineFault} (cond (eqb (length bytes) 0) (Err Syntax) (Ok bytes)) (λ bytes. 1 ≤ length bytes)
    some bytes = elim (eqb_tells (length bytes) 0) [
      | inl (test, is) ↦ rw test tt
      | inr (test, other) ↦ rw test (omega (arith, other))
    ]

-- A statement is in range: the numbers in its instruction are in range, and its data contains at least one byte.
abbrev pub States : Statement → Type 0
States Empty = ⊤
States (Label name) = ⊤
States (Data name string) = 1 ≤ length string
States (Instruction draft) = IsInRange draft

label_in-States : (name : List ℕ) (operands : List (List ℕ)) → IfOk (label_in name operands) States
label_in-States name [] = then-IfOk States (name_in name) _ (λ label. tt)
label_in-States name (a ∷ more) = tt

data_in-States : (operands : List (List ℕ)) → IfOk (data_in operands) States
data_in-States [] = tt
data_in-States (a ∷ []) = tt
data_in-States (a ∷ b ∷ []) =
    then-IfOk_of States (λ f. 1 ≤ length f.1) (both (name_in a) (bytes_in b)) _
    (both-second (λ bytes. 1 ≤ length bytes) (name_in a) (bytes_in b) (bytes_in-some b)) (λ f some. some)
data_in-States (a ∷ b ∷ c ∷ more) = tt

other-States : (word : List ℕ) (name : Option (List ℕ)) (operands : List (List ℕ))
    → IfOk (label_or_instruction word name operands) States
other-States word (Some name) operands = label_in-States name operands
other-States word None operands =
    then-IfOk_of States IsInRange (instruction_in word operands) _ (instruction_in-range word operands)
    (λ draft range. range)

pub statement_of-States : (words : List (List ℕ)) → IfOk (statement_of words) States
unfolding statement_of
statement_of-States [] = tt
statement_of-States (word ∷ operands) =
    cond-IfOk States _ (data_in operands) (label_or_instruction word (before_last_byte 58 word) operands)
    (data_in-States operands) (other-States word (before_last_byte 58 word) operands)
