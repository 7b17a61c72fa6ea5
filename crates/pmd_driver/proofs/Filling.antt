-- Lemmas about packets made from bytes.
use Rattle.std.proofs.Common.{◌≡◌, ℕ, ◌+◌, ◌-◌, ◌*◌, List, [], ◌∷◌, ◌++◌, map, replicate, length, drop, Some, refl, sym, ap, ◌∙◌, subst, arith}
use Rattle.std.proofs.lemmas.List.{drop-replicate, length-map, replicate-append-replicate}
use Rattle.pmd_access.specs.NicDevice.DmaArena.Block.{Block, zero_block}
use Rattle.pmd_access.specs.NicDevice.DmaArena.Memory.{put_bytes}
use Rattle.pmd_access.specs.NicDevice.DmaArena.Numbers.{Numbers}
use Rattle.pmd_access.specs.Bufs.{bytes_of, numbers_of}
use Rattle.pmd_access.specs.Fresh.{IsFresh}
use Rattle.pmd_access.specs.Home.{IsDrawn}
use Rattle.pmd_access.specs.declared.packet.Packet.{Packet}
use Rattle.pmd_driver.specs.Filled.{IsFilled}

-- The bytes of fresh blocks are all 0.
zero_bytes : (ns : List ℕ) → bytes_of (map zero_block ns) ≡ replicate (2048 * length ns) 0
zero_bytes [] = refl
zero_bytes (n ∷ ns) =
    let all : 2048 + 2048 * length ns ≡ 2048 * length (n ∷ ns) = omega arith in
    ap (λ (xs : List ℕ). replicate 2048 0 ++ xs) (zero_bytes ns)
    ∙ replicate-append-replicate 2048 (2048 * length ns) 0
    ∙ ap (λ (m : ℕ). replicate m 0) all

same_count : (bs cs : List Block) → numbers_of bs ≡ numbers_of cs → length bs ≡ length cs
same_count bs cs same =
    sym (length-map bs (λ (b : Block). b.number))
    ∙ ap (λ (ns : List ℕ). length ns) same
    ∙ length-map cs (λ (b : Block). b.number)

-- If bytes are written to the start of a fresh packet, the result is a packet of these bytes (`IsFilled`).
pub filled_of : (a b : Numbers) (bytes : List ℕ) (p q : Packet) → IsFresh a (length bytes) (Some p) b
    → bytes_of q.bufs ≡ put_bytes (bytes_of p.bufs) 0 bytes → numbers_of q.bufs ≡ numbers_of p.bufs
    → q ≡ record p { bufs = q.bufs } → IsFilled a bytes q b
unfolding put_bytes
filled_of a b bytes p q (draws, is) put numbers rest =
    let n = length bytes in
    let count = same_count q.bufs p.bufs numbers in
    let zeros : bytes_of p.bufs ≡ replicate (2048 * length q.bufs) 0 =
    ap bytes_of draws.zero ∙ zero_bytes (numbers_of p.bufs)
    ∙ ap (λ (k : ℕ). replicate (2048 * k) 0) (length-map p.bufs (λ (x : Block). x.number) ∙ sym count) in
    let none : 0 + n ≡ n = omega arith in
    let following : drop (0 + n) (bytes_of p.bufs) ≡ replicate (2048 * length q.bufs - n) 0 =
    ap (λ (k : ℕ). drop k (bytes_of p.bufs)) none
    ∙ ap (λ (xs : List ℕ). drop n xs) zeros
    ∙ drop-replicate n (2048 * length q.bufs) 0 in
    record {
      drawn = subst (λ (ns : List ℕ). IsDrawn a ns b) (sym numbers) draws.drawn;
      count_is = count ∙ draws.count_is;
      bytes_are = put ∙ ap (λ (xs : List ℕ). bytes ++ xs) following;
      rest = rest ∙ ap (λ (x : Packet). record x { bufs = q.bufs }) is;
    }
