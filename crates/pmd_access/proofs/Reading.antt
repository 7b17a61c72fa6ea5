-- Lemmas about copying the bytes of Bufs, Buf by Buf.
use Rattle.std.proofs.Common.{◌≡◌, ℕ, zero, suc, ◌+◌, ◌*◌, ◌-◌, ◌<◌, ◌≤◌, min, List, [], ◌∷◌, ◌++◌, All, length, get_or, take, drop, slice_get, slice_index, Option, Some, refl, sym, ap, ◌∙◌, subst, append_assoc, arith}
use Rattle.std.proofs.Math.Seq.{drop-append-add, drop-cons, drop-nil, take-add}
use Rattle.std.proofs.lemmas.List.{drop-append-le, drop-drop, length-append, length-drop, length-take, length-take-le, take-append-drop, take-append-le, take_all}
use Rattle.std.proofs.lemmas.List.Elements.{All-head, All-tail}
use Rattle.std.proofs.lemmas.Option.{slice_get-get_or}
use Rattle.std.proofs.lemmas.Slice.{drop-append-drop}
use Rattle.device_lock.specs.NicDevice.DmaArena.Block.{Block, IsBlock}
use Rattle.pmd_access.specs.Bufs.{bytes_of}

-- Each Buf contains 2,048 bytes.
pub length_bytes : (bs : List Block) → All (λ (b : Block). IsBlock b) bs → length (bytes_of bs) ≡ 2048 * length bs
length_bytes [] whole = refl
length_bytes (b ∷ bs) whole =
    let one = (All-head (λ (x : Block). IsBlock x) b bs whole).size in
    let more = length_bytes bs (All-tail (λ (x : Block). IsBlock x) b bs whole) in
    omega (arith, one, more, length-append b.bytes (bytes_of bs))

-- A packet of `len` bytes keeps at most `len` bytes.
pub length_taken : (len : ℕ) (xs : List ℕ) → length (take len xs) ≡ min len (length xs)
length_taken len xs = length-take len xs

-- The bytes of the Bufs after the first `k` are all bytes after the first 2,048 times `k`.
drop-bytes : (bs : List Block) → All (λ (b : Block). IsBlock b) bs → (k : ℕ)
    → bytes_of (drop k bs) ≡ drop (2048 * k) (bytes_of bs)
drop-bytes bs whole zero = refl
drop-bytes [] whole (suc k) = sym (drop-nil (2048 * suc k))
drop-bytes (b ∷ bs) whole (suc k) =
    let one = (All-head (λ (x : Block). IsBlock x) b bs whole).size in
    let past : 2048 * suc k ≡ length b.bytes + 2048 * k = omega (arith, one) in
    drop-bytes bs (All-tail (λ (x : Block). IsBlock x) b bs whole) k
    ∙ sym (ap (λ (n : ℕ). drop n (b.bytes ++ bytes_of bs)) past ∙ drop-append-add b.bytes (bytes_of bs) (2048 * k))

-- The bytes copied from a Buf are the next bytes to be copied.
module _ (bs : List Block) (whole : All (λ (b : Block). IsBlock b) bs) (k : ℕ) (below : k < length bs) (b : Block)
    (is : b ≡ get_or bs k b) where
  within : (start more : ℕ) → start + more ≤ 2048
      → take more (drop (2048 * k + start) (bytes_of bs)) ≡ take more (drop start b.bytes)
  within start more few =
      let rest = bytes_of (drop (suc k) bs) in
      let size = subst (λ (x : Block). length x.bytes ≡ 2048) (sym is) (whole k b below).size in
      let here : bytes_of (drop k bs) ≡ b.bytes ++ rest =
      ap bytes_of (drop-cons bs k b below) ∙ ap (λ (x : Block). x.bytes ++ rest) (sym is) in
      let there : drop (2048 * k + start) (bytes_of bs) ≡ drop start b.bytes ++ rest =
      sym (drop-drop start (2048 * k) (bytes_of bs))
      ∙ ap (λ (xs : List ℕ). drop start xs) (sym (drop-bytes bs whole k) ∙ here)
      ∙ drop-append-le start b.bytes rest (omega (arith, size, few)) in
      ap (λ (xs : List ℕ). take more xs) there
      ∙ take-append-le more (drop start b.bytes) rest (omega (arith, size, few, length-drop start b.bytes))

  comes_next : (n at f start more : ℕ) → f ≡ min n (2048 * k - at) → start ≡ min (at - 2048 * k) 2048
      → more ≡ min (n - f) (2048 - start)
      → take more (drop f (drop at (bytes_of bs))) ≡ take more (drop start b.bytes)
  comes_next n at f start zero filled begins many = refl
  comes_next n at f start (suc more) filled begins many =
      let there : at + f ≡ 2048 * k + start = omega (arith, filled, begins, many) in
      ap (λ (xs : List ℕ). take (suc more) xs)
      (drop-drop f at (bytes_of bs) ∙ ap (λ (m : ℕ). drop m (bytes_of bs)) there)
      ∙ within start (suc more) (omega (arith, many))

-- The bytes of one more Buf are appended to those already copied.
pub copies_one : (bs : List Block) (k : ℕ) (b : Block) (at f start more : ℕ) (old now piece new : List ℕ)
    → All (λ (x : Block). IsBlock x) bs → k < length bs → b ≡ get_or bs k b → at + length old ≤ 2048 * length bs
    → f ≡ min (length old) (2048 * k - at) → start ≡ min (at - 2048 * k) 2048
    → more ≡ min (length old - f) (2048 - start)
    → now ≡ take f (drop at (bytes_of bs)) ++ drop f old → piece ≡ take more (drop start b.bytes)
    → new ≡ take f now ++ piece ++ drop (f + length piece) now
    → new ≡ take (f + more) (drop at (bytes_of bs)) ++ drop (f + more) old
copies_one bs k b at f start more old now piece new whole below is room filled begins many copied part put =
    let wanted = drop at (bytes_of bs) in
    let size = length_bytes bs whole in
    let full = subst (λ (x : Block). length x.bytes ≡ 2048) (sym is) (whole k b below).size in
    let front : length (take f wanted) ≡ f =
    length-take-le f wanted (omega (arith, size, length-drop at (bytes_of bs), room, filled)) in
    let count : length piece ≡ more =
    ap (λ (xs : List ℕ). length xs) part
    ∙ length-take-le more (drop start b.bytes) (omega (arith, full, length-drop start b.bytes, many)) in
    let head : take f now ≡ take f wanted =
    ap (λ (xs : List ℕ). take f xs) copied
    ∙ take-append-le f (take f wanted) (drop f old) (omega (arith, front))
    ∙ take_all f (take f wanted) (omega (arith, front)) in
    let tail : drop (f + length piece) now ≡ drop (f + more) old =
    ap (λ (xs : List ℕ). drop (f + length piece) xs) copied
    ∙ drop-append-drop f old (take f wanted) (f + length piece) (omega arith) front
    ∙ ap (λ (m : ℕ). drop (f + m) old) count in
    let next : piece ≡ take more (drop f wanted) =
    part ∙ sym (comes_next bs whole k below b is (length old) at f start more filled begins many) in
    put
    ∙ append_assoc (take f now) piece (drop (f + length piece) now)
    ∙ ap (λ (xs : List ℕ). xs ++ (piece ++ drop (f + length piece) now)) head
    ∙ ap (λ (xs : List ℕ). take f wanted ++ (piece ++ xs)) tail
    ∙ ap (λ (xs : List ℕ). take f wanted ++ (xs ++ drop (f + more) old)) next
    ∙ sym (append_assoc (take f wanted) (take more (drop f wanted)) (drop (f + more) old))
    ∙ ap (λ (xs : List ℕ). xs ++ drop (f + more) old) (sym (take-add f more wanted))

-- Reading the first `len` bytes returns the same bytes as reading all of them.
pub read_first : (len at n : ℕ) (xs : List ℕ) → at + n ≤ length (take len xs)
    → take n (drop at (take len xs)) ≡ take n (drop at xs)
read_first len at n xs few =
    let front = take len xs in
    let all : take n (drop at xs) ≡ take n (drop at (front ++ drop len xs)) =
    ap (λ (ys : List ℕ). take n (drop at ys)) (sym (take-append-drop len xs)) in
    let past : drop at (front ++ drop len xs) ≡ drop at front ++ drop len xs =
    drop-append-le at front (drop len xs) (omega (arith, few)) in
    let within : take n (drop at front ++ drop len xs) ≡ take n (drop at front) =
    take-append-le n (drop at front) (drop len xs) (omega (arith, few, length-drop at front)) in
    sym (all ∙ ap (λ (ys : List ℕ). take n ys) past ∙ within)

-- Copying keeps the number of bytes.
pub copied_size : (bs : List Block) (at f : ℕ) (old new : List ℕ) → All (λ (x : Block). IsBlock x) bs
    → at + length old ≤ 2048 * length bs → f ≤ length old
    → new ≡ take f (drop at (bytes_of bs)) ++ drop f old → length new ≡ length old
copied_size bs at f old new whole room few copied =
    let wanted = drop at (bytes_of bs) in
    let size = length_bytes bs whole in
    let front = length-take-le f wanted (omega (arith, size, length-drop at (bytes_of bs), room, few)) in
    let all = ap (λ (xs : List ℕ). length xs) copied in
    omega (arith, all, front, length-append (take f wanted) (drop f old), length-drop f old, few)

-- Reading one byte returns the byte at this index.
pub byte_read : (xs : List ℕ) (at : ℕ) (one : List ℕ) → at + 1 ≤ length xs → one ≡ take 1 (drop at xs)
    → slice_get xs at ≡ Some (slice_index one 0)
byte_read xs at one some is =
    let first : List ℕ → Option ℕ = λ (ys : List ℕ). Some (slice_index ys 0) in
    slice_get-get_or xs at 0 (omega (arith, some))
    ∙ sym (ap first (is ∙ ap (λ (ys : List ℕ). take 1 ys) (drop-cons xs at 0 (omega (arith, some)))))

pub ruleset reading = (length_taken, read_first, byte_read)
