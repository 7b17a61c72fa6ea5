-- Lemmas about appending bytes to an input.
use Rattle.std.proofs.Common.{◌≡◌, ℕ, ◌-◌, ◌≤◌, List, ◌++◌, length, take, drop, replicate, refl, sym, ap, ◌∙◌, arith}
use Rattle.std.proofs.lemmas.List.{append_assoc, length-append, take_at, drop_at, drop-replicate, length-take-le, length-replicate}
use borrow.Rule.Slice.PartMut.{put_mid}
use Rattle.rss_hash.specs.Input.{padded, bytes_of, IsFilled}
use Rattle.rss_hash.specs.declared.input.Input.TheInside.{Inside}

pub length-bytes_of : (input : Inside) → IsFilled input → length (bytes_of input) ≡ input.len
length-bytes_of input filled = length-take-le input.len input.bytes (omega (arith, filled.fits, filled.whole))

-- Writing bytes over the start of the padding appends these bytes to the padded bytes.
put_mid-padded : (bytes more part : List ℕ) (start len : ℕ) → start ≡ length bytes → len ≡ length more → part ≡ more
    → put_mid start len (padded bytes) part ≡ padded (bytes ++ more)
put_mid-padded bytes more part start len at_end same_len same_part =
    let zeros : List ℕ = replicate (36 - length bytes) 0 in
    let front : take (length bytes) (padded bytes) ≡ bytes = take_at bytes zeros (length bytes) refl in
    let back : drop (length bytes) (padded bytes) ≡ zeros = drop_at bytes zeros (length bytes) refl in
    let left : 36 - length bytes - length more ≡ 36 - length (bytes ++ more) = simp length-append (omega arith) in
    rw (
      at_end,
      same_len,
      same_part,
      front,
      back,
      drop-replicate {X = ℕ} (length more) (36 - length bytes) 0,
      left,
    ) (sym (append_assoc bytes more (replicate (36 - length (bytes ++ more)) 0)))

-- Copying bytes to the end of an input with `copy_from_slice` appends these bytes to the input.
pub put_mid-filled : (input : Inside) (more part : List ℕ) (len : ℕ) → IsFilled input → part ≡ more → len ≡ length more
    → put_mid input.len len input.bytes part ≡ padded (bytes_of input ++ more)
put_mid-filled input more part len filled same_part same_len =
    let at_end : input.len ≡ length (bytes_of input) = sym (length-bytes_of input filled) in
    ap (λ array. put_mid input.len len array part) filled.zeros
    ∙ put_mid-padded (bytes_of input) more part input.len len at_end same_len same_part

pub IsFilled-padded : (bytes array : List ℕ) (len : ℕ) → length bytes ≤ 36 → array ≡ padded bytes → len ≡ length bytes
    → IsFilled (record { bytes = array; len = len })
IsFilled-padded bytes array len fits same_array same_len =
    rw (same_array, same_len) (record {
      fits = fits;
      whole = simp (length-append, length-replicate) (omega arith);
      zeros = ap padded (sym (take_at bytes (replicate (36 - length bytes) 0) (length bytes) refl));
    })

pub bytes_of-padded : (bytes array : List ℕ) (len : ℕ) → array ≡ padded bytes → len ≡ length bytes
    → take len array ≡ bytes
bytes_of-padded bytes array len same_array same_len =
    rw (same_array, same_len) (take_at bytes (replicate (36 - length bytes) 0) (length bytes) refl)
