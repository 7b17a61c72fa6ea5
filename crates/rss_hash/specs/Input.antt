-- The hashed part of a frame: at most 36 bytes, in an array whose remaining bytes are 0.
use Rattle.std.specs.Prelude.{◌≡◌, ℕ, ◌-◌, ◌≤◌, List, ◌++◌, length, take, replicate}
use Rattle.std.proofs.Common.{ap, sym, ◌∙◌, arith}
use Rattle.std.proofs.lemmas.List.{length-take-le}
use Rattle.rss_hash.specs.declared.input.Input.TheInside.{Inside}

-- The bytes, padded with zeros to 36.
abbrev pub padded : List ℕ → List ℕ
padded bytes = bytes ++ replicate (36 - length bytes) 0

-- The bytes that are hashed.
abbrev pub bytes_of : Inside → List ℕ
bytes_of input = take input.len input.bytes

-- The length is at most 36, and the array is 0 after the hashed bytes.
pub record IsFilled (input : Inside) : Type 0 where
  pub fits : input.len ≤ 36
  pub whole : length input.bytes ≡ 36
  pub zeros : input.bytes ≡ padded (bytes_of input)

-- The bytes determine the array and the length.
pub unpadded : (input : Inside) → IsFilled input
    → record { bytes = padded (bytes_of input); len = length (bytes_of input) } ≡ input
unpadded input filled =
    let with_bytes : List ℕ → Inside = λ bytes. record { bytes = bytes; len = length (bytes_of input) } in
    let with_len : ℕ → Inside = λ len. record { bytes = input.bytes; len = len } in
    ap with_bytes (sym filled.zeros) ∙ ap with_len (length-take-le input.len input.bytes (omega arith))
