use Rattle.std.proofs.Common.{◌≡◌, ◌++◌, map, take}
use Rattle.std.specs.List.{flat_map, AllByRecursion}
use Rattle.program.specs.Bytes.{bytes_of_fields}
use Rattle.program.specs.Encoding.{fields_of, HaveWidths}
use Rattle.program.proofs.writing.put_instructions.Given as goal

abbrev pub invariant-loop-instruction : goal.invariant-loop-instruction
invariant-loop-instruction l = record {
  bytes : l.out.items ≡ l.fn.out.items
      ++ flat_map bytes_of_fields (map fields_of (take l.instruction-index l.instructions));
  widths : AllByRecursion HaveWidths (map fields_of (take l.instruction-index l.instructions));
}
