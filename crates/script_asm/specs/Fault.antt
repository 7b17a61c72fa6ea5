-- The faults of a script, and the order in which they are reported.
use Rattle.std.specs.Prelude.{◌≡◌, ◌≢◌, ℕ, Result, Ok, Err}
use Rattle.text_format.specs.declared.numbers.NumberFault.{NumberFault}
use Rattle.text_format.specs.declared.numbers.NumberFault.TheVariants.{Malformed, TooLarge}
pub use Rattle.program.specs.Mapped.{◌then◌}
use Rattle.script_asm.specs.declared.faults.LineFault.{LineFault}
use Rattle.script_asm.specs.declared.faults.LineFault.TheVariants as line
use Rattle.script_asm.specs.declared.faults.ScriptFault.{ScriptFault}
use Rattle.script_asm.specs.declared.faults.ScriptFault.TheVariants.{Syntax, UnknownName, Range, TooLong, OutOfMemory}

-- The one of two faults that is reported if a line has both.
abbrev pub reported_first : LineFault → LineFault → LineFault
reported_first line.Syntax other = line.Syntax
reported_first line.UnknownName line.Syntax = line.Syntax
reported_first line.UnknownName line.UnknownName = line.UnknownName
reported_first line.UnknownName line.Range = line.UnknownName
reported_first line.UnknownName line.TooLong = line.UnknownName
reported_first line.Range line.Syntax = line.Syntax
reported_first line.Range line.UnknownName = line.UnknownName
reported_first line.Range line.Range = line.Range
reported_first line.Range line.TooLong = line.Range
reported_first line.TooLong other = other

-- Two parts of a line, or the fault if one part is faulty. If both parts are faulty, the fault that is reported first.
abbrev pub both : {A B : Type 0} → Result A LineFault → Result B LineFault → Result (A × B) LineFault
both (Ok a) (Ok b) = Ok (a, b)
both (Ok a) (Err fault) = Err fault
both (Err fault) (Ok b) = Err fault
both (Err fault) (Err other) = Err (reported_first fault other)

-- The line's fault for a faulty number.
abbrev pub number_fault : NumberFault → LineFault
number_fault Malformed = line.Syntax
number_fault TooLarge = line.Range

-- The script's fault for a fault in the line with this number.
abbrev pub fault_at : ℕ → LineFault → ScriptFault
fault_at number line.Syntax = Syntax number
fault_at number line.UnknownName = UnknownName number
fault_at number line.Range = Range number
fault_at number line.TooLong = TooLong

-- The meaning of a line, or its fault with the line's number.
abbrev pub at_line : {A : Type 0} → ℕ → Result A LineFault → Result A ScriptFault
at_line number (Ok x) = Ok x
at_line number (Err fault) = Err (fault_at number fault)

-- The result, converted by `view`, equals the meaning, unless memory ran out.
abbrev pub Gives : {X Y : Type 0} → (X → Y) → Result X ScriptFault → Result Y ScriptFault → Type 0
Gives view (Ok x) meaning = meaning ≡ Ok (view x)
Gives view (Err fault) meaning = fault ≢ OutOfMemory → meaning ≡ Err fault
