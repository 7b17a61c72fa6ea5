-- Reading an input.
use Rattle.std.specs.Prelude.{◌≡◌, ◌≤◌, ◌⊎◌, ℕ, List, Option, IfSome, Result, Ok, Err, codes, length, nat_lt, true, if◌then◌else◌}
use Rattle.std.specs.Str.{is_utf8}
use Rattle.bench_commands.specs.Answer.{Answer, refused_as}
use Rattle.bench_commands.specs.declared.input.Input.{Input}

-- A read failed, or a million reads didn't reach the end. In the second case each read returned at least one byte, so
-- the reader had at least a million bytes.
abbrev pub CouldNotBeRead : {R : Type 0} → Option (List ℕ) → Input R → Type 0
CouldNotBeRead remaining input =
    (input.has_failed ≡ true) ⊎ ((input.reads ≡ 1000000) × IfSome remaining (λ bytes. 1000000 ≤ length bytes))

-- The bytes of an input of at most 8,388,608 bytes. A longer input is refused.
abbrev pub bytes_in : List ℕ → Result (List ℕ) Answer
bytes_in input = if nat_lt 8388608 (length input) then Err (refused_as (codes "TooLong")) else Ok input

-- The text that the bytes encode in UTF-8. Other bytes are refused.
abbrev pub text_in : List ℕ → Result (List ℕ) Answer
text_in bytes = if is_utf8 bytes then Ok bytes else Err (refused_as (codes "Input"))
