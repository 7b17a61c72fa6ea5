-- The output of `nicbench asm` and `nicbench dis`.
use Rattle.std.specs.Prelude.{List, Result, Ok, Err, codes, ℕ}
use Rattle.program.specs.Listing.{Listing}
use Rattle.program.specs.Object.{object_of, read_of}
use Rattle.program.specs.declared.ObjectFault.{ObjectFault}
use Rattle.program.specs.declared.ObjectFault.TheVariants as fault
use Rattle.script_asm.specs.Disassembly.{text_of}
use Rattle.script_asm.specs.Script.{program_of}
use Rattle.script_asm.specs.declared.ScriptFault.{ScriptFault}
use Rattle.bench_commands.specs.Answer.{Answer, refused_as, refused_at}
use Rattle.bench_commands.specs.Run.{script_refused}

-- The refusal for bytes that aren't an object, with the number of the faulty instruction if there is one.
abbrev pub object_refused : ObjectFault → Answer
object_refused fault.Magic = refused_as (codes "Magic")
object_refused fault.Version = refused_as (codes "Version")
object_refused fault.Length = refused_as (codes "Length")
object_refused (fault.Opcode pc) = refused_at (codes "Opcode") pc
object_refused (fault.Operand pc) = refused_at (codes "Operand") pc
object_refused (fault.Target pc) = refused_at (codes "Target") pc
object_refused fault.OutOfMemory = refused_as (codes "OutOfMemory")

-- The script's program as an object, or the refusal for an input that isn't a script.
abbrev pub object_answer : Result Listing ScriptFault → Answer
object_answer (Ok program) = record { text = object_of program; status = 0 }
object_answer (Err fault) = script_refused fault

abbrev pub asm_answer : List ℕ → Answer
asm_answer text = object_answer (program_of text)

-- The object's program as a script, or the refusal for bytes that aren't an object.
abbrev pub shown_answer : Result Listing ObjectFault → Answer
shown_answer (Ok program) = record { text = text_of program; status = 0 }
shown_answer (Err fault) = object_refused fault

abbrev pub dis_answer : List ℕ → Answer
dis_answer bytes = shown_answer (read_of bytes)
