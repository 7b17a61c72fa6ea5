use Rattle.std.proofs.Common.{◌≡◌, ◌+◌, ◌*◌, ◌++◌, Option, Some, None, Result, Ok, Err, sym, ap, ◌∙◌, arith, length-drop, drop}
use Rattle.std.proofs.lemmas.List.{drop-drop}
use Rattle.std.specs.Option.{ok_or}
use Rattle.std.specs.List.{flat_map}
use Rattle.program.specs.declared.fault.ObjectFault.{ObjectFault}
use Rattle.program.specs.declared.fault.ObjectFault.TheVariants.{Length}
use Rattle.program.specs.Bytes.{bytes_of_fields}
use Rattle.program.specs.Object.{laid_out, all_fields_in}
use Rattle.program.proofs.Pieces.{Small, Small-drop}
use Rattle.program.proofs.ReadStrings.{strings_in-read}
use Rattle.program.proofs.Meanings.{meanings-spelled}
use Rattle.program.proofs.Spelled.{header_in-spelled, all_fields-spelled, laid_out-is}
use Rattle.program.proofs.reading.read.Goals as goal

was_some : {A : Type 0} (r : Option A) (x : A) → ok_or r Length ≡ Ok x → r ≡ Some x
was_some {A = A} None x is = let no : ◌≡◌ {A = Result A ObjectFault} (Err Length) (Ok x) = is in cc
was_some (Some y) x is = cc

pub new-requires : goal.new-requires
new-requires c =
    let h = c.in_ok-header.header in
    let fits = c.in_ok-header.ensures.fits in
    let read = strings_in-read h.strings _ _ (was_some _ _ c.in_ok-strings.ensures) in
    let count = c.in_ok-instructions.ensures.count in
    record {
      few = omega arith;
      few_strings = omega (arith, read.number);
      strings = read.each;
      sound = rw (count, ← c.deref.ensures.value) c.in_ok-instructions.ensures.sound;
    }

pub returns-clause-spelled : goal.returns-clause-spelled
returns-clause-spelled c =
    let bytes = c.args.bytes.now in
    let h = c.in_ok-header.header in
    let small : Small c.args.bytes.now = λ k. omega (arith, c.type_inv.bytes k) in
    let after = drop (16 + 12 * h.count) bytes in
    let read = strings_in-read h.strings _ _ (was_some _ _ c.in_ok-strings.ensures) in
    let head = header_in-spelled bytes h small (sym c.in_ok-header.ensures.value) in
    let rows = all_fields-spelled h.count (drop 16 bytes) (Small-drop 16 bytes small)
    (omega (arith, length-drop 16 bytes, c.in_ok-header.ensures.fits.inside)) in
    let means = meanings-spelled _ h.count 0 (all_fields_in h.count (drop 16 bytes)) _
    c.in_ok-instructions.ensures.exact in
    let all = all_fields_in h.count (drop 16 bytes) in
    let rest = drop-drop (12 * h.count) 16 bytes in
    let whole = laid_out-is bytes h all c.in_ok-strings.strings.items head rows.1 read.number
    (rows.0 ∙ ap (λ rest. flat_map bytes_of_fields all ++ rest) rest)
    (read.spelled (Small-drop (16 + 12 * h.count) bytes small)) in
    rw c.new.ensures (whole ∙ ap (λ all. laid_out all c.in_ok-strings.strings.items) means)
