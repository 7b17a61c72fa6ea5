-- Reading the object of a program returns the same program.
use Rattle.std.proofs.Common.{◌≡◌, ℕ, ◌+◌, ◌*◌, ◌≤◌, List, ◌++◌, length, map, drop, Result, Ok, sym, ap, ◌∙◌, arith, length-append}
use Rattle.std.proofs.Math.Seq.{drop-append_seam}
use Rattle.std.proofs.lemmas.List.{length-map, drop-drop}
use Rattle.std.specs.List.{AllByRecursion, flat_map}
use Rattle.std.specs.Option.{ok_or}
use Rattle.program.specs.declared.fields.Fields.{Fields}
use Rattle.program.specs.declared.fault.ObjectFault.{ObjectFault}
use Rattle.program.specs.declared.fault.ObjectFault.TheVariants.{Length}
use Rattle.program.specs.declared.reading.Header.{Header}
use Rattle.program.specs.Bytes.{bytes_of_fields}
use Rattle.program.specs.Encoding.{fields_of, HaveWidths}
use Rattle.program.specs.Listing.{Listing, IsListing, IsDataString}
use Rattle.program.specs.Mapped.{◌then◌}
use Rattle.program.specs.Object.{laid_out, object_of, read_of, bytes_of_string, strings_after, strings_in, all_fields_in, meanings, program_of}
use Rattle.program.proofs.Back.{header-back, all_fields-back, strings-back}
use Rattle.program.proofs.Meant.{meanings-of}
use Rattle.program.proofs.Sizes.{length-instructions, object-small}

-- The result of reading everything after the header, given its counts.
abbrev read_after : List ℕ → Header → Result Listing ObjectFault
read_after bytes h =
    strings_after h.count h.strings bytes then λ strings.
    meanings strings h.count 0 (all_fields_in h.count (drop 16 bytes)) then λ instructions.
    Ok (record { strings = strings; instructions = instructions })

pub laid_out-read : (all : List Fields) (strings : List (List ℕ)) → length all ≤ 4096 → length strings ≤ 1024
    → AllByRecursion IsDataString strings →
    AllByRecursion HaveWidths all → read_of (laid_out all strings) ≡ program_of all strings
unfolding laid_out read_of
laid_out-read all strings few few_strings each widths =
    let rows = flat_map bytes_of_fields all in
    let rest = flat_map bytes_of_string strings in
    let body = flat_map bytes_of_fields all ++ flat_map bytes_of_string strings in
    let bytes = laid_out all strings in
    let size = length-instructions all in
    let inside : 12 * length all ≤ length body = omega (arith, length-append rows rest) in
    let small = object-small all strings few few_strings each in
    let head = header-back (length all) (length strings) body few few_strings inside small in
    let after : drop (16 + 12 * length all) bytes ≡ flat_map bytes_of_string strings =
    sym (drop-drop (12 * length all) 16 bytes) ∙ ap (λ n. drop n body) (sym size) ∙ drop-append_seam rows rest in
    let data_strings = ap (λ bytes. ok_or (strings_in (length strings) bytes) Length) after
    ∙ ap (λ read. ok_or read Length) (strings-back strings each) in
    let fields = all_fields-back all rest widths in
    ap (λ found. found then read_after bytes) head
    ∙ ap (λ found. found then λ strings. meanings strings (length all) 0 (all_fields_in (length all) (drop 16 bytes))
    then λ instructions.
    Ok (record { strings = strings; instructions = instructions })) data_strings
    ∙ ap (λ all_read. meanings strings (length all) 0 all_read
    then λ instructions. Ok (record { strings = strings; instructions = instructions })) fields

pub object-read : (program : Listing) → IsListing program
    → AllByRecursion HaveWidths (map fields_of program.instructions) → read_of (object_of program) ≡ Ok program
object-read program is widths =
    let count = length-map program.instructions fields_of in
    laid_out-read (map fields_of program.instructions) program.strings (omega (arith, is.few)) is.few_strings is.strings
    widths
    ∙ ap (λ count. meanings program.strings count 0 (map fields_of program.instructions)
    then λ instructions. Ok (record { strings = program.strings; instructions = instructions })) count
    ∙ ap (λ read. read then λ instructions. Ok (record { strings = program.strings; instructions = instructions }))
    (meanings-of program.strings (length program.instructions) 0 program.instructions is.sound)
