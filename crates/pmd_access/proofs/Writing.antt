-- Lemmas about overwriting the bytes of Bufs, Buf by Buf.
use Rattle.std.proofs.Common.{◌≡◌, ℕ, zero, suc, ◌+◌, ◌*◌, ◌-◌, ◌≤◌, min, List, [], ◌∷◌, ◌++◌, length, take, drop, refl, sym, ap, ◌∙◌, append_assoc, arith}
use Rattle.std.proofs.lemmas.Grind.{common_steps}
use Rattle.std.proofs.lemmas.List.{take_min, drop_min, length-drop}
use Rattle.device_lock.specs.NicDevice.DmaArena.Block.{Block}
use Rattle.device_lock.specs.NicDevice.DmaArena.Memory.{put_bytes}
use Rattle.pmd_access.specs.Bufs.{bytes_of, numbers_of}
use Rattle.pmd_access.proofs.Copying.{bytes-more}
use Rattle.pmd_access.proofs.Drawing.{numbers-more}

next_from : (at n : ℕ) → at + suc n ≡ suc (at + n)
next_from at n = omega arith

next_past : (at n : ℕ) → suc at + n ≡ suc (at + n)
next_past at n = omega arith

-- Overwriting two concatenated lists, starting at the first byte.
put-front : (xs ys bytes : List ℕ) → put_bytes (xs ++ ys) 0 bytes
    ≡ put_bytes xs 0 (take (length xs) bytes) ++ put_bytes ys 0 (drop (length xs) bytes)
unfolding put_bytes
put-front [] ys bytes = refl
put-front (x ∷ xs) ys [] = refl
put-front (x ∷ xs) ys (byte ∷ bytes) =
    rw (next_from 0 (length bytes), next_from 0 (length (take (length xs) bytes)))
    (ap (λ (zs : List ℕ). byte ∷ zs) (put-front xs ys bytes))

-- Overwriting two concatenated lists splits into a part over the first and the rest over the second.
put-append : (xs ys : List ℕ) (at : ℕ) (bytes : List ℕ) → put_bytes (xs ++ ys) at bytes
    ≡ put_bytes xs (min at (length xs)) (take (length xs - at) bytes)
    ++ put_bytes ys (at - length xs) (drop (length xs - at) bytes)
unfolding put_bytes
put-append xs ys zero bytes =
    let start : min 0 (length xs) ≡ 0 = omega arith in
    let all : length xs - 0 ≡ length xs = omega arith in
    let past : 0 - length xs ≡ 0 = omega arith in
    rw (start, all, past) (put-front xs ys bytes)
put-append [] ys (suc at) bytes = grind (arith, common_steps)
put-append (x ∷ xs) ys (suc at) bytes =
    let left : suc (length xs) - suc at ≡ length xs - at = omega arith in
    let past : suc at - suc (length xs) ≡ at - length xs = omega arith in
    let start : min (suc at) (suc (length xs)) ≡ suc (min at (length xs)) = omega arith in
    let next = next_past at (length bytes) in
    let over = next_past (min at (length xs)) (length (take (length xs - at) bytes)) in
    rw (left, past, start, next, over) (ap (λ (zs : List ℕ). x ∷ zs) (put-append xs ys at bytes))

-- The bytes that belong in a Buf are written to it, and the rest to the Bufs after it.
pub writes_one : (written now : List Block) (b c : Block) (left : List Block) (at start more : ℕ)
    (rest piece after all : List ℕ) → bytes_of written ++ put_bytes (bytes_of (b ∷ left)) at rest ≡ all
    → length b.bytes ≡ 2048 → start ≡ min at 2048 → more ≡ min (length rest) (2048 - start)
    → piece ≡ take more rest → after ≡ drop more rest
    → c ≡ record b { bytes = put_bytes b.bytes start piece } → now ≡ written ++ c ∷ []
    → bytes_of now ++ put_bytes (bytes_of left) (at - start) after ≡ all
writes_one written now b c left at start more rest piece after all is size begins many part others put pushed =
    let room : length b.bytes - at ≡ 2048 - start = omega (arith, size, begins) in
    let past : at - length b.bytes ≡ at - start = omega (arith, size, begins) in
    let first : min at (length b.bytes) ≡ start = omega (arith, size, begins) in
    let few : min (2048 - start) (length rest) ≡ more = omega (arith, many) in
    let into : take (2048 - start) rest ≡ piece =
    sym (take_min (2048 - start) rest) ∙ ap (λ (n : ℕ). take n rest) few ∙ sym part in
    let over : drop (2048 - start) rest ≡ after =
    sym (drop_min (2048 - start) rest) ∙ ap (λ (n : ℕ). drop n rest) few ∙ sym others in
    let split : put_bytes (bytes_of (b ∷ left)) at rest
    ≡ put_bytes b.bytes start piece ++ put_bytes (bytes_of left) (at - start) after =
    put-append b.bytes (bytes_of left) at rest ∙ rw (room, past, first, into, over) refl in
    let whole : bytes_of now ≡ bytes_of written ++ put_bytes b.bytes start piece =
    ap bytes_of pushed ∙ bytes-more written c ∙ ap (λ (x : Block). bytes_of written ++ x.bytes) put in
    ap (λ (xs : List ℕ). xs ++ put_bytes (bytes_of left) (at - start) after) whole
    ∙ append_assoc (bytes_of written) (put_bytes b.bytes start piece) (put_bytes (bytes_of left) (at - start) after)
    ∙ ap (λ (xs : List ℕ). bytes_of written ++ xs) (sym split)
    ∙ is

-- The remaining bytes fit into the remaining Bufs.
pub fits_after : (left : List Block) (b : Block) (at start more : ℕ) (rest after : List ℕ)
    → at + length rest ≤ 2048 * length (b ∷ left) → start ≡ min at 2048 → more ≡ min (length rest) (2048 - start)
    → after ≡ drop more rest → at - start + length after ≤ 2048 * length left
fits_after left b at start more rest after room begins many others =
    let less : length after ≡ length rest - more =
    ap (λ (xs : List ℕ). length xs) others ∙ length-drop more rest in
    omega (arith, room, begins, many, less)

-- If no Bufs remain, no bytes remain.
pub nothing_left : (left : List Block) (at : ℕ) (rest xs : List ℕ) → length left ≡ 0
    → at + length rest ≤ 2048 * length left → xs ++ put_bytes (bytes_of left) at rest ≡ xs
unfolding put_bytes
nothing_left [] at [] xs none room = grind (arith, common_steps)
nothing_left [] at (byte ∷ rest) xs none room = absurd (omega (arith, room))
nothing_left (b ∷ left) at rest xs none room = absurd (omega (arith, none))

-- Overwriting keeps a Buf's number.
pub numbers_one : (written now : List Block) (b c : Block) (left : List Block) (all : List ℕ)
    → numbers_of written ++ numbers_of (b ∷ left) ≡ all → c.number ≡ b.number → now ≡ written ++ c ∷ []
    → numbers_of now ++ numbers_of left ≡ all
numbers_one written now b c left all is same pushed =
    ap (λ (bs : List Block). numbers_of bs ++ numbers_of left) pushed
    ∙ ap (λ (ns : List ℕ). ns ++ numbers_of left) (numbers-more written c)
    ∙ append_assoc (numbers_of written) (c.number ∷ []) (numbers_of left)
    ∙ ap (λ (n : ℕ). numbers_of written ++ n ∷ numbers_of left) same
    ∙ is
