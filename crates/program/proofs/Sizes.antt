-- Lemmas about the sizes in bytes of a program's parts.
use Rattle.std.proofs.Common.{◌≡◌, ℕ, ◌+◌, ◌*◌, ◌≤◌, ◌<◌, ◌^◌, List, [], ◌∷◌, ◌++◌, length, refl, arith, length-append}
use Rattle.std.specs.List.{AllByRecursion, flat_map}
use Rattle.program.specs.declared.fields.Fields.{Fields}
use Rattle.program.specs.Bytes.{bytes_of_fields}
use Rattle.program.specs.Listing.{IsDataString}
use Rattle.program.specs.Object.{bytes_of_string}

pub length-instructions : (all : List Fields) → length (flat_map bytes_of_fields all) ≡ 12 * length all
length-instructions [] = refl
length-instructions (f ∷ all) =
    let more = length-instructions all in
    omega (arith, length-append (bytes_of_fields f) (flat_map bytes_of_fields all))

pub length-strings : (strings : List (List ℕ)) → AllByRecursion IsDataString strings →
    length (flat_map bytes_of_string strings) ≤ 16386 * length strings
length-strings [] each = omega arith
length-strings (string ∷ strings) each =
    let more = length-strings strings each.1 in
    omega (arith, each.0.short, length-append (bytes_of_string string) (flat_map bytes_of_string strings))

-- Every object is shorter than 2^32 bytes.
pub object-small : (all : List Fields) (strings : List (List ℕ)) → length all ≤ 4096 → length strings ≤ 1024
    → AllByRecursion IsDataString strings →
    16 + length (flat_map bytes_of_fields all ++ flat_map bytes_of_string strings) < 2 ^ 32
object-small all strings few few_strings each =
    let instructions = length-instructions all in
    let data_strings = length-strings strings each in
    omega (arith, length-append (flat_map bytes_of_fields all) (flat_map bytes_of_string strings))
