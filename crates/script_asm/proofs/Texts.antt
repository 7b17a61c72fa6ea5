-- Lemmas for proving that the lines of a program's source read back as its statements.
use Rattle.std.proofs.Common.{◌≡◌, refl, sym, ◌∙◌, ap, subst, ℕ, zero, suc, ◌+◌, ◌/◌, ◌%◌, ◌<◌, ◌≤◌, true, false, cond, ◌==◌, List, [], ◌∷◌, ◌++◌, length, map, get_or, slice_index, append_assoc, Result, Ok, Err, Some, arith}
use Rattle.std.specs.Prelude.{codes, decimal}
use Rattle.std.specs.Str.Lines.{lines}
use Rattle.std.proofs.lemmas.List.Sums.{AllPass-from_list_all}
use Rattle.hex.specs.Hex.{encode_with, lower_digits}
use Rattle.hex.proofs.HexLemmas.{decode_of-encode_lower}
use Rattle.text_format.proofs.HexData.{hex_bytes_of-decoded}
use Rattle.script_asm.specs.Prelude.{AllByRecursion, IsDataString, bytes_text, hex_bytes_of, list_all, ok_or, words_of}
use Rattle.script_asm.proofs.Prelude.{nat_tests}
use Rattle.script_asm.specs.Disassembly.{data_line, data_lines}
use Rattle.script_asm.specs.Fault.{◌then◌}
use Rattle.script_asm.specs.Statement.{bytes_in, statement_of}
use Rattle.script_asm.specs.Target.{name_in}
use Rattle.script_asm.specs.declared.faults.LineFault.{LineFault}
use Rattle.script_asm.specs.declared.faults.LineFault.TheVariants.{Syntax}
use Rattle.script_asm.specs.declared.statements.Statement.{Statement}
use Rattle.script_asm.specs.declared.statements.Statement.TheVariants.{Data}
use Rattle.script_asm.proofs.Numerals.{name_in-numbered, IsWord-numbered}
use Rattle.script_asm.proofs.Plain.{IsWord, is_plain, joined, joined-inline, words_of-joined, lines-more}
use Rattle.script_asm.proofs.Spelling.{data_name}

-- The statement of a line.
abbrev pub say : List ℕ → Result Statement LineFault
say line = statement_of (words_of line)

-- The lines of a text are read as these statements.
pub record Reads (text : List ℕ) (statements : List Statement) : Type 0 where
  pub is : map say (lines text) ≡ map Ok statements

one_more : (line : List ℕ) (lines : List (List ℕ)) (s : Statement) (ss : List Statement) → say line ≡ Ok s
    → map say lines ≡ map Ok ss → map say (line ∷ lines) ≡ map Ok (s ∷ ss)
one_more line lines s ss here rest = cc

-- A line of words is read as one statement, and the rest of the text as the further statements.
pub reads-line : (text : List ℕ) (words : List (List ℕ)) (rest : List ℕ) (s : Statement) (ss : List Statement)
    → AllByRecursion IsWord words
    → text ≡ joined words ++ 10 ∷ [] → statement_of words ≡ Ok s → Reads rest ss → Reads (text ++ rest) (s ∷ ss)
reads-line text words rest s ss are is says more =
    let whole : text ++ rest ≡ joined words ++ 10 ∷ rest =
    ap (λ t. t ++ rest) is ∙ append_assoc (joined words) (10 ∷ []) rest in
    let here : say (joined words) ≡ Ok s = ap statement_of (words_of-joined words are) ∙ says in
    record {
      is = ap (λ t. map say (lines t)) whole ∙ ap (map say) (lines-more (joined words) rest (joined-inline words are))
          ∙ one_more (joined words) (lines rest) s ss here more.is;
    }

-- Lemmas about lines of data.
digits_plain : (k : ℕ) → k < 16 → is_plain (slice_index lower_digits k) ≡ true
digits_plain k small = AllPass-from_list_all is_plain lower_digits refl k 0 small

hex_plain : (xs : List ℕ) → AllByRecursion (λ b. b < 256) xs → list_all is_plain (bytes_text xs) ≡ true
unfolding encode_with
hex_plain [] all = refl
hex_plain (x ∷ xs) all =
    let small = all.0 in
    rw (digits_plain (x / 16) (omega arith), digits_plain (x % 16) (omega arith), hex_plain xs all.1) refl

hex_long : (xs : List ℕ) → 1 ≤ length xs → (length (bytes_text xs) == 0) ≡ false
unfolding encode_with
hex_long [] some = absurd (omega arith)
hex_long (x ∷ xs) some = grind (arith, nat_tests)

are_bytes : (xs : List ℕ) → AllByRecursion (λ b. b < 256) xs → (i : ℕ) → slice_index xs i < 256
are_bytes [] all i = omega arith
are_bytes (x ∷ xs) all zero = all.0
are_bytes (x ∷ xs) all (suc i) = are_bytes xs all.1 i

pub each_byte : (xs : List ℕ) → ((i : ℕ) → get_or xs i 0 < 256) → AllByRecursion (λ b. b < 256) xs
each_byte [] small = tt
each_byte (x ∷ xs) small = (small 0, each_byte xs (λ i. small (suc i)))

bytes_in-text : (xs : List ℕ) → 1 ≤ length xs → AllByRecursion (λ b. b < 256) xs → bytes_in (bytes_text xs) ≡ Ok xs
bytes_in-text xs some all =
    let is : hex_bytes_of (bytes_text xs) ≡ Some xs =
    hex_bytes_of-decoded (bytes_text xs) xs (decode_of-encode_lower xs (are_bytes xs all)) in
    let long : (length xs == 0) ≡ false = grind (arith, nat_tests) in
    ap (λ o. ok_or o Syntax then λ bytes. cond (length bytes == 0) (Err Syntax) (Ok bytes)) is ∙ rw long refl

says-data : (name digits bytes : List ℕ) → name_in name ≡ Ok name → bytes_in digits ≡ Ok bytes
    → statement_of (codes "data" ∷ name ∷ digits ∷ []) ≡ Ok (Data name bytes)
unfolding statement_of
says-data name digits bytes x y = rw (x, y) refl

abbrev pub data_statements : ℕ → List (List ℕ) → List Statement
data_statements number [] = []
data_statements number (string ∷ more) = Data (data_name number) string ∷ data_statements (number + 1) more

pub reads-data : (number : ℕ) (strings : List (List ℕ)) (rest : List ℕ) (ss : List Statement)
    → number + length strings ≤ 1024 → AllByRecursion IsDataString strings
    → AllByRecursion (AllByRecursion (λ b. b < 256)) strings → Reads rest ss
    → Reads (data_lines number strings ++ rest) (data_statements number strings ++ ss)
unfolding data_lines
reads-data number [] rest ss few are bytes more = more
reads-data number (string ∷ strings) rest ss few are bytes more =
    let small : number < 65536 = omega arith in
    let words = codes "data" ∷ data_name number ∷ bytes_text string ∷ [] in
    let word : IsWord (bytes_text string) =
    record { long = hex_long string are.0.some; plain = hex_plain string bytes.0 } in
    let text : data_line number string ≡ joined words ++ 10 ∷ [] =
    ap (λ t. codes "data d" ++ t) (sym (append_assoc (decimal number) (32 ∷ bytes_text string) (10 ∷ []))) in
    let after = reads-data (number + 1) strings rest ss (omega arith) are.1 bytes.1 more in
    subst (λ (t : List ℕ). Reads t (Data (data_name number) string ∷ (data_statements (number + 1) strings ++ ss)))
    (sym (append_assoc (data_line number string) (data_lines (number + 1) strings) rest))
    (reads-line (data_line number string) words (data_lines (number + 1) strings ++ rest)
    (Data (data_name number) string) (data_statements (number + 1) strings ++ ss)
    (record { long = refl; plain = refl }, (IsWord-numbered 100 number refl small, (word, tt))) text
    (says-data (data_name number) (bytes_text string) string (name_in-numbered 100 number refl small)
    (bytes_in-text string are.0.some bytes.0)) after)
