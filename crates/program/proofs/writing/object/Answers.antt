use Rattle.std.proofs.Common.{length, map, ap, arith}
use Rattle.std.proofs.lemmas.List.{length-map}
use Rattle.program.specs.Encoding.{fields_of}
use Rattle.program.proofs.Sizes.{object-small}
use Rattle.program.proofs.writing.object.Goals as goal

pub overflow_cast-total : goal.overflow_cast-total
overflow_cast-total c =
    let instructions = c.args.instructions.now in
    let few = length-map instructions fields_of in
    let small = object-small (map fields_of instructions) c.args.strings.now (omega (arith, c.requires.few))
    c.requires.few_strings c.requires.strings in
    let body = ap length c.in_ok-body.ensures.bytes in
    omega arith
