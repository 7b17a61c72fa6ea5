-- Proves that the faults of a line are reported in order.
use Rattle.std.proofs.Common.{◌≡◌, ◌≤◌, ◌⊎◌, refl, ◌∙◌, ap, ℕ, true, cond, is_some, List, Option, Some, None, Result, Ok, Err, arith, inl, inr}
use Rattle.script_asm.specs.Prelude.{NumberedLine}
use Rattle.script_asm.specs.Fault.{◌then◌, both, reported_first, at_line, fault_at}
use Rattle.script_asm.specs.Laws.{rank, OneHas, FaultsComeInOrder, reading_of}
use Rattle.script_asm.specs.Outline.{Outline}
use Rattle.script_asm.specs.Places.{place_of}
use Rattle.script_asm.specs.Script.{with_line, with_statement}
use Rattle.script_asm.specs.declared.faults.LineFault.{LineFault}
use Rattle.script_asm.specs.declared.faults.LineFault.TheVariants.{Syntax, UnknownName, Range, TooLong}
use Rattle.script_asm.specs.declared.faults.ScriptFault.TheVariants.{TwoLabels}
use Rattle.script_asm.specs.declared.statements.Statement.TheVariants.{Label, Data}

-- The reported fault is one of two faults, and neither of the two comes before it in the order.
record IsFirst (e f reported : LineFault) : Type 0 where
  one : (e ≡ reported) ⊎ (f ≡ reported)
  before_one : rank reported ≤ rank e
  before_other : rank reported ≤ rank f

reported_first-IsFirst : (e f : LineFault) → IsFirst e f (reported_first e f)
reported_first-IsFirst Syntax f = record { one = inl refl; before_one = omega arith; before_other = omega arith }
reported_first-IsFirst UnknownName Syntax =
    record { one = inr refl; before_one = omega arith; before_other = omega arith }
reported_first-IsFirst UnknownName UnknownName =
    record { one = inl refl; before_one = omega arith; before_other = omega arith }
reported_first-IsFirst UnknownName Range =
    record { one = inl refl; before_one = omega arith; before_other = omega arith }
reported_first-IsFirst UnknownName TooLong =
    record { one = inl refl; before_one = omega arith; before_other = omega arith }
reported_first-IsFirst Range Syntax = record { one = inr refl; before_one = omega arith; before_other = omega arith }
reported_first-IsFirst Range UnknownName =
    record { one = inr refl; before_one = omega arith; before_other = omega arith }
reported_first-IsFirst Range Range = record { one = inl refl; before_one = omega arith; before_other = omega arith }
reported_first-IsFirst Range TooLong = record { one = inl refl; before_one = omega arith; before_other = omega arith }
reported_first-IsFirst TooLong Syntax = record { one = inr refl; before_one = omega arith; before_other = omega arith }
reported_first-IsFirst TooLong UnknownName =
    record { one = inr refl; before_one = omega arith; before_other = omega arith }
reported_first-IsFirst TooLong Range = record { one = inr refl; before_one = omega arith; before_other = omega arith }
reported_first-IsFirst TooLong TooLong = record { one = inl refl; before_one = omega arith; before_other = omega arith }

abbrev InOrder : Result ℕ LineFault → Result ℕ LineFault → LineFault → Type 0
InOrder a b fault = OneHas a b fault × ((other : LineFault) → OneHas a b other → rank fault ≤ rank other)

rank-same : (e f : LineFault) → e ≡ f → rank e ≤ rank f
rank-same e f is = omega (arith, ap rank is)

both-order : (a b : Result ℕ LineFault) (fault : LineFault) → both a b ≡ Err fault → InOrder a b fault
both-order (Ok x) (Ok y) fault e = cc
both-order (Ok x) (Err f) fault e =
    let is : f ≡ fault = cc in (
      inr (ap Err is),
      λ other has. elim has [
        | inl at ↦ (let none : Ok x ≡ Err other = at in cc)
        | inr at ↦ (let same : fault ≡ other = cc in rank-same fault other same)
      ],
    )
both-order (Err f) (Ok y) fault e =
    let is : f ≡ fault = cc in (
      inl (ap Err is),
      λ other has. elim has [
        | inl at ↦ (let same : fault ≡ other = cc in rank-same fault other same)
        | inr at ↦ (let none : Ok y ≡ Err other = at in cc)
      ],
    )
both-order (Err e) (Err f) fault is =
    let first = reported_first-IsFirst e f in
    let same : reported_first e f ≡ fault = cc in (
      elim first.one [ inl here ↦ inl (ap Err (here ∙ same)) | inr there ↦ inr (ap Err (there ∙ same)) ],
      λ other has. elim has [
        | inl at ↦ (let here : e ≡ other = cc in omega (arith, first.before_one, ap rank here, ap rank same))
        | inr at ↦ (let there : f ≡ other = cc in omega (arith, first.before_other, ap rank there, ap rank same))
      ],
    )

line-faulty : (before : Outline) (line : NumberedLine) (fault : LineFault) → reading_of line ≡ Err fault
    → with_line before line ≡ Err (fault_at line.number fault)
line-faulty before line fault e = ap (λ r. at_line line.number r then λ s. with_statement before line.number s) e

refused : {A E : Type 0} (o : Option ℕ) (e : E) (r : Result A E) → is_some o ≡ true → cond (is_some o) (Err e) r ≡ Err e
refused (Some n) e r some = refl
refused None e r some = cc

label-twice : (before : Outline) (line : NumberedLine) (name : List ℕ) → reading_of line ≡ Ok (Label name)
    → is_some (place_of before.labels name) ≡ true
    → with_line before line ≡ Err (TwoLabels line.number)
label-twice before line name e given =
    ap (λ r. at_line line.number r then λ s. with_statement before line.number s) e
    ∙ refused (place_of before.labels name) (TwoLabels line.number) _ given

data-twice : (before : Outline) (line : NumberedLine) (name string : List ℕ) → reading_of line ≡ Ok (Data name string)
    → is_some (place_of before.data_numbers name) ≡ true
    → with_line before line ≡ Err (TwoLabels line.number)
data-twice before line name string e given =
    ap (λ r. at_line line.number r then λ s. with_statement before line.number s) e
    ∙ refused (place_of before.data_numbers name) (TwoLabels line.number) _ given

pub faults_come_in_order : FaultsComeInOrder
faults_come_in_order = record { operands = both-order; lines = line-faulty; labels = label-twice; «data» = data-twice }
