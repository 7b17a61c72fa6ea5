-- The bytes that an object was read from are its encoding.
use Rattle.std.proofs.Common.{◌≡◌, ℕ, zero, suc, ◌+◌, ◌*◌, ◌≤◌, ◌==◌, Bool, true, false, cond, not, ◌&&◌, nat_le, eqb, List, ◌++◌, length, drop, Result, Ok, Err}
use Rattle.std.proofs.Common.{refl, sym, ap, ◌∙◌, arith, append_assoc, length-drop, eqb-true}
use Rattle.std.proofs.lemmas.Bool.{and_parts}
use Rattle.std.proofs.lemmas.Bool.Decides.{Decides-eqb}
use Rattle.std.proofs.lemmas.List.{drop-drop}
use Rattle.std.proofs.lemmas.Slice.Eq.{starts_is}
use borrow.Author.Tests.{leb-true}
use Rattle.std.specs.List.{flat_map, starts_with}
use Rattle.std.specs.Int.{w16, w32, to_le_bytes}
use Rattle.program.specs.declared.fields.Fields.{Fields}
use Rattle.program.specs.declared.fault.ObjectFault.{ObjectFault}
use Rattle.program.specs.declared.fault.ObjectFault.TheVariants.{Magic, Version, Length}
use Rattle.program.specs.declared.reading.Header.{Header}
use Rattle.program.specs.Bytes.{number16_at, number32_at, bytes_of_fields, fields_in}
use Rattle.program.specs.Object.{magic, magic_and_version, header, header_in, counts_in, all_fields_in, laid_out, bytes_of_string}
use Rattle.program.proofs.Pieces.{Small, Small-drop, piece16, piece32, fields_spelled}

-- The fields of `count` instructions encode to their bytes.
pub all_fields-spelled : (count : ℕ) (bytes : List ℕ) → Small bytes → 12 * count ≤ length bytes →
    (bytes ≡ flat_map bytes_of_fields (all_fields_in count bytes) ++ drop (12 * count) bytes)
    × (length (all_fields_in count bytes) ≡ count)
unfolding all_fields_in
all_fields-spelled zero bytes small inside = (refl, refl)
all_fields-spelled (suc count) bytes small inside =
    let rest = all_fields-spelled count (drop 12 bytes) (Small-drop 12 bytes small)
    (omega (arith, length-drop 12 bytes)) in
    let here = fields_spelled bytes small (omega arith) in
    let others = flat_map bytes_of_fields (all_fields_in count (drop 12 bytes)) in
    let times : 12 + 12 * count ≡ 12 * suc count = omega arith in
    let after = drop-drop (12 * count) 12 bytes ∙ ap (λ n. drop n bytes) times in (
      here ∙ ap (λ more. bytes_of_fields (fields_in bytes) ++ more) (rest.0 ∙ ap (λ more. others ++ more) after)
          ∙ sym (append_assoc (bytes_of_fields (fields_in bytes)) others (drop (12 * suc count) bytes)),
      ap suc rest.1,
    )

-- What holds for a header that was read, and for its encoding.
pub record IsHeader (bytes : List ℕ) (h : Header) : Type 0 where
  pub spelled : bytes ≡ header h.count h.strings (length bytes) ++ drop 16 bytes
  pub long : 16 ≤ length bytes

passed : {A E : Type 0} (test : Bool) (x y : A) (e : E) → cond test (Ok x) (Err e) ≡ Ok y → (test ≡ true) × (x ≡ y)
passed true x y e is = (refl, cc)
passed false x y e is = cc

five_parts : (a b c d e more : List ℕ) → (a ++ b ++ c ++ d ++ e) ++ more ≡ a ++ (b ++ (c ++ (d ++ (e ++ more))))
five_parts a b c d e more = simp append_assoc

counted : (bytes : List ℕ) (h : Header) → Small bytes → bytes ≡ magic_and_version ++ drop 6 bytes
    → counts_in bytes ≡ Ok h → IsHeader bytes h
counted bytes h small begins is =
    let count = number16_at bytes 6 in
    let strings = number16_at bytes 8 in
    let all = passed _ (record { count = count; strings = strings }) h Length is in
    let inside = and_parts _ (nat_le (16 + 12 * count) (length bytes)) all.0 in
    let few = and_parts _ (nat_le strings 1024) inside.0 in
    let most = and_parts _ (nat_le count 4096) few.0 in
    let total = and_parts (nat_le 16 (length bytes) && number16_at bytes 10 == 0) (number32_at bytes 12 == length bytes)
    most.0 in
    let zero = and_parts (nat_le 16 (length bytes)) (number16_at bytes 10 == 0) total.0 in
    let none = eqb-true (number16_at bytes 10) 0 zero.1 in
    let whole = eqb-true (number32_at bytes 12) (length bytes) total.1 in
    let long : 16 ≤ length bytes = omega (arith, leb-true 16 (length bytes) zero.0) in
    let n = to_le_bytes w16 count in
    let d = to_le_bytes w16 strings in
    let z = to_le_bytes w16 0 in
    let t = to_le_bytes w32 (length bytes) in
    let last = piece32 bytes 12 16 small refl long ∙ ap (λ total. to_le_bytes w32 total ++ drop 16 bytes) whole in
    let third = piece16 bytes 10 12 small refl (omega arith)
    ∙ ap (λ none. to_le_bytes w16 none ++ drop 12 bytes) none in
    let second = piece16 bytes 8 10 small refl (omega arith) in
    let first = piece16 bytes 6 8 small refl (omega arith) in
    let spelled = begins ∙ ap (λ more. magic_and_version ++ more) (first
    ∙ ap (λ more. n ++ more) (second ∙ ap (λ more. d ++ more)
    (third ∙ ap (λ more. z ++ more) last))) ∙ sym (five_parts magic_and_version n d z t (drop 16 bytes)) in
    record {
      spelled = spelled ∙ ap (λ (h : Header). header h.count h.strings (length bytes) ++ drop 16 bytes) all.1;
      long = long;
    }

pub header_in-spelled : (bytes : List ℕ) (h : Header) → Small bytes → header_in bytes ≡ Ok h → IsHeader bytes h
unfolding header_in
header_in-spelled bytes h small is =
    begun (starts_with eqb bytes magic) (starts_with eqb bytes magic_and_version) refl is
  where
    begun : (is_object is_first : Bool) → starts_with eqb bytes magic_and_version ≡ is_first →
        cond (not is_object) (Err Magic) (cond (not is_first) (Err Version) (counts_in bytes)) ≡ Ok h → IsHeader bytes h
    begun false is_first first is = let no : ◌≡◌ {A = Result Header ObjectFault} (Err Magic) (Ok h) = is in cc
    begun true false first is = let no : ◌≡◌ {A = Result Header ObjectFault} (Err Version) (Ok h) = is in cc
    begun true true first is = counted bytes h small
        ((starts_is Decides-eqb bytes magic_and_version true (sym first)).0 refl) is

-- The bytes of an object are the encoding of its header, its instructions and its data strings.
pub laid_out-is : (bytes : List ℕ) (h : Header) (all : List Fields) (strings : List (List ℕ)) → IsHeader bytes h →
    length all ≡ h.count → length strings ≡ h.strings →
    drop 16 bytes ≡ flat_map bytes_of_fields all ++ drop (16 + 12 * h.count) bytes →
    drop (16 + 12 * h.count) bytes ≡ flat_map bytes_of_string strings → bytes ≡ laid_out all strings
unfolding laid_out
laid_out-is bytes h all strings head count number instructions after =
    let body : drop 16 bytes ≡ flat_map bytes_of_fields all ++ flat_map bytes_of_string strings =
    instructions ∙ ap (λ more. flat_map bytes_of_fields all ++ more) after in
    let size : length bytes ≡ 16 + length (flat_map bytes_of_fields all ++ flat_map bytes_of_string strings) =
    omega (arith, length-drop 16 bytes, ap length body, head.long) in
    head.spelled ∙ ap (λ more. header h.count h.strings (length bytes) ++ more) body
    ∙ rw (count, number, size) refl
