-- Lemmas about copying a packet's bytes, Buf by Buf.
use Rattle.std.proofs.Common.{◌≡◌, ℕ, zero, suc, ◌+◌, ◌*◌, ◌-◌, ◌<◌, min, List, [], ◌∷◌, ◌++◌, length, get_or, take, refl, sym, ap, ◌∙◌, append_assoc, arith}
use Rattle.std.proofs.lemmas.List.{append-nil, take_more, take_min, length-take}
use Rattle.device_lock.specs.NicDevice.DmaArena.Block.{Block}
use Rattle.pmd_access.specs.Bufs.{bytes_of}

pub bytes-append : (bs cs : List Block) → bytes_of (bs ++ cs) ≡ bytes_of bs ++ bytes_of cs
bytes-append [] cs = refl
bytes-append (b ∷ bs) cs =
    ap (λ (xs : List ℕ). b.bytes ++ xs) (bytes-append bs cs) ∙ sym (append_assoc b.bytes (bytes_of bs) (bytes_of cs))

pub bytes-more : (bs : List Block) (c : Block) → bytes_of (bs ++ c ∷ []) ≡ bytes_of bs ++ c.bytes
bytes-more bs c = bytes-append bs (c ∷ []) ∙ ap (λ (xs : List ℕ). bytes_of bs ++ xs) (append-nil c.bytes)

pub take-append : (n : ℕ) (xs ys : List ℕ) → take n (xs ++ ys) ≡ take n xs ++ take (n - length xs) ys
take-append zero xs ys =
    let e : 0 - length xs ≡ 0 = omega arith in sym (ap (λ (m : ℕ). take m ys) e)
take-append (suc n) [] ys =
    let e : suc n ≡ suc n - 0 = omega arith in ap (λ (m : ℕ). take m ys) e
take-append (suc n) (x ∷ xs) ys =
    let e : n - length xs ≡ suc n - suc (length xs) = omega arith in
    ap (λ (zs : List ℕ). x ∷ zs) (take-append n xs ys)
    ∙ ap (λ (m : ℕ). x ∷ (take n xs ++ take m ys)) e

short_of : (len many k : ℕ) → min len many ≡ min len (2048 * k) → len - min len (2048 * k) ≡ len - many
short_of len many k same = omega (arith, same)

pub copies_more : (len k : ℕ) (bs : List Block) (xs : List ℕ) (b : Block) (count : ℕ)
    → xs ≡ take len (bytes_of (take k bs)) → length xs ≡ min len (2048 * k) → k < length bs → b ≡ get_or bs k b
    → length b.bytes ≡ 2048 → count ≡ min (len - min len (2048 * k)) 2048
    → xs ++ take count b.bytes ≡ take len (bytes_of (take (k + 1) bs))
copies_more len k bs xs b count is many below at whole few =
    let front = bytes_of (take k bs) in
    let same : min len (length front) ≡ min len (2048 * k) =
    sym (length-take len front) ∙ ap (λ (zs : List ℕ). length zs) (sym is) ∙ many in
    let left = short_of len (length front) k same in
    let piece : take count b.bytes ≡ take (len - length front) b.bytes =
    ap (λ (n : ℕ). take n b.bytes) (few ∙ ap (λ (n : ℕ). min n 2048) left
    ∙ ap (λ (n : ℕ). min (len - length front) n) (sym whole))
    ∙ take_min (len - length front) b.bytes in
    let all : take (k + 1) bs ≡ take k bs ++ b ∷ [] =
    take_more bs k b below ∙ ap (λ (c : Block). take k bs ++ c ∷ []) (sym at) in
    ap (λ (zs : List ℕ). zs ++ take count b.bytes) is ∙ ap (λ (zs : List ℕ). take len front ++ zs) piece
    ∙ sym (take-append len front b.bytes)
    ∙ ap (λ (zs : List ℕ). take len zs) (sym (bytes-more (take k bs) b))
    ∙ ap (λ (cs : List Block). take len (bytes_of cs)) (sym all)

pub many_more : (len k count : ℕ) (b : Block) → length b.bytes ≡ 2048 → count ≡ min (len - min len (2048 * k)) 2048
    → min len (2048 * k) + length (take count b.bytes) ≡ min len (2048 * (k + 1))
many_more len k count b whole few = omega (arith, length-take count b.bytes, whole, few)
