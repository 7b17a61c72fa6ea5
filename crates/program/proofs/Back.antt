-- Lemmas: reading what was laid out returns the original.
use Rattle.std.proofs.Common.{◌≡◌, ℕ, ◌+◌, ◌*◌, ◌<◌, ◌≤◌, ◌^◌, ◌==◌, cond, ◌&&◌, nat_le, List, [], ◌∷◌, ◌++◌, length, take, drop, Some, None, Result, Ok, Err}
use Rattle.std.proofs.Common.{refl, ap, ap₂, ◌∙◌, arith, append_assoc, length-append}
use Rattle.std.proofs.Math.Seq.{take-append_seam, drop-append_seam}
use Rattle.std.proofs.lemmas.Bool.{and_from, le-leb, eq-eqb, cond-true}
use Rattle.std.proofs.lemmas.Nat.{from_le_bytes-to_le_bytes_2, from_le_bytes-to_le_bytes_4}
use Rattle.std.specs.List.{AllByRecursion, flat_map}
use Rattle.std.specs.Int.{w16, to_le_bytes}
use Rattle.program.specs.declared.fields.Fields.{Fields}
use Rattle.program.specs.declared.fault.ObjectFault.{ObjectFault}
use Rattle.program.specs.declared.fault.ObjectFault.TheVariants.{Length}
use Rattle.program.specs.declared.reading.Header.{Header}
use Rattle.program.specs.Bytes.{number16_at, number32_at, bytes_of_fields, fields_in}
use Rattle.program.specs.Encoding.{fields, HaveWidths}
use Rattle.program.specs.Listing.{IsDataString}
use Rattle.program.specs.Object.{header, header_in, all_fields_in, string_in, strings_in, before_strings, bytes_of_string}

-- Fields are read back from their own bytes.
pub fields-back : (f : Fields) (more : List ℕ) → HaveWidths f → fields_in (bytes_of_fields f ++ more) ≡ f
fields-back f more widths =
    let x = from_le_bytes-to_le_bytes_2 f.x widths.x in
    let a = from_le_bytes-to_le_bytes_4 f.a widths.a in
    let b = from_le_bytes-to_le_bytes_4 f.b widths.b in
    λ i. fields f.op f.sub (x i) (a i) (b i)

pub all_fields-back : (all : List Fields) (more : List ℕ) → AllByRecursion HaveWidths all →
    all_fields_in (length all) (flat_map bytes_of_fields all ++ more) ≡ all
unfolding all_fields_in
all_fields-back [] more widths = refl
all_fields-back (f ∷ all) more widths =
    let rest = flat_map bytes_of_fields all in
    let assoc = append_assoc (bytes_of_fields f) rest more in
    let here = ap fields_in assoc ∙ fields-back f (rest ++ more) widths.0 in
    let others : all_fields_in (length all) (rest ++ more) ≡ all = all_fields-back all more widths.1 in
    ap (λ bytes. fields_in bytes ∷ all_fields_in (length all) (drop 12 bytes)) assoc
    ∙ ap₂ (λ (f : Fields) (all : List Fields). f ∷ all) (fields-back f (rest ++ more) widths.0) others

-- A data string is read back from its own bytes.
pub string-back : (string more : List ℕ) → IsDataString string
    → string_in (bytes_of_string string ++ more) ≡ Some (string, more)
unfolding string_in
string-back string more is =
    let size = from_le_bytes-to_le_bytes_2 (length string) (omega (arith, is.short)) in
    let bytes = bytes_of_string string ++ more in
    let whole : length bytes ≡ 2 + length (string ++ more) =
    omega (arith, length-append (to_le_bytes w16 (length string)) (string ++ more)) in
    let test = and_from _ _ (and_from _ _ (le-leb 1 (length string) is.some) (le-leb (length string) 16384 is.short))
    (le-leb (2 + length string) (length bytes) (omega (arith, length-append string more))) in
    ap (λ (n : ℕ). cond (nat_le 1 n && nat_le n 16384 && nat_le (2 + n) (length bytes))
    (Some (take n (drop 2 bytes), drop n (drop 2 bytes))) None) size
    ∙ cond-true _ (Some (take (length string) (string ++ more), drop (length string) (string ++ more))) None test
    ∙ ap₂ (λ (front back : List ℕ). Some (front, back)) (take-append_seam string more) (drop-append_seam string more)

pub strings-back : (strings : List (List ℕ)) → AllByRecursion IsDataString strings →
    strings_in (length strings) (flat_map bytes_of_string strings) ≡ Some strings
unfolding strings_in
strings-back [] each = refl
strings-back (string ∷ strings) each =
    ap (λ split. elim split [ None ↦ None | Some split ↦ before_strings split.0 (strings_in (length strings) split.1) ])
    (string-back string (flat_map bytes_of_string strings) each.0)
    ∙ ap (before_strings string) (strings-back strings each.1)

-- The result of reading a header with these numbers.
abbrev says : ℕ → ℕ → ℕ → ℕ → ℕ → Result Header ObjectFault
says n d none total size =
    cond (nat_le 16 size && none == 0 && total == size && nat_le n 4096 && nat_le d 1024 && nat_le (16 + 12 * n) size)
    (Ok (record { count = n; strings = d })) (Err Length)

says-back : (n d size : ℕ) → n ≤ 4096 → d ≤ 1024 → 16 + 12 * n ≤ size
    → says n d 0 size size ≡ Ok (record { count = n; strings = d })
says-back n d size few few_strings inside =
    let fits = and_from _ _ (and_from _ _ (and_from _ _ (and_from _ _ (and_from _ _ (le-leb 16 size (omega arith)) refl)
    (eq-eqb size size refl)) (le-leb n 4096 few)) (le-leb d 1024 few_strings)) (le-leb (16 + 12 * n) size inside) in
    cond-true _ (Ok (record { count = n; strings = d })) (Err Length) fits

pub header-back : (n d : ℕ) (body : List ℕ) → n ≤ 4096 → d ≤ 1024 → 12 * n ≤ length body → 16 + length body < 2 ^ 32 →
    header_in (header n d (16 + length body) ++ body) ≡ Ok (record { count = n; strings = d })
unfolding header_in
header-back n d body few few_strings inside small =
    let size = 16 + length body in
    let whole : length (header n d (16 + length body) ++ body) ≡ 16 + length body =
    omega (arith, length-append (header n d (16 + length body)) body) in
    let count = from_le_bytes-to_le_bytes_2 n (omega arith) in
    let strings = from_le_bytes-to_le_bytes_2 d (omega arith) in
    let none = from_le_bytes-to_le_bytes_2 0 (omega arith) in
    let total = from_le_bytes-to_le_bytes_4 (16 + length body) small in
    let known : says (number16_at (header n d (16 + length body) ++ body) 6)
    (number16_at (header n d (16 + length body) ++ body) 8)
    (number16_at (header n d (16 + length body) ++ body) 10) (number32_at (header n d (16 + length body) ++ body) 12)
    (length (header n d (16 + length body) ++ body)) ≡ says n d 0 (16 + length body) (16 + length body) =
    λ i. says (count i) (strings i) (none i) (total i) (whole i) in
    known ∙ says-back n d size few few_strings (omega arith)
