-- Lemmas about taking blocks from an arena and returning them.
use Rattle.std.proofs.Common.{◌≡◌, ℕ, ◌+◌, true, false, List, [], ◌∷◌, ◌++◌, map, refl, sym, ap, ◌∙◌, subst, arith}
use Rattle.std.proofs.lemmas.List.{length_push}
use Rattle.device_lock.specs.NicDevice.DmaArena.Block.{Block, zero_block}
use Rattle.device_lock.specs.NicDevice.DmaArena.Numbers.{Numbers, is_free, with_free}
use Rattle.pmd_access.specs.Bufs.{numbers_of}
use Rattle.pmd_access.specs.Fresh.{IsDrawnAs}
use Rattle.pmd_access.specs.Home.{IsDrawn}

-- If one more free block is taken, all of these blocks were taken in order.
pub drawn_next : (a : Numbers) (ns : List ℕ) (b : Numbers) (n : ℕ) (d : Numbers) → IsDrawn a ns b → is_free b n ≡ true
    → d ≡ with_free b n false → IsDrawn a (ns ++ n ∷ []) d
drawn_next a [] b n d is free then = (
  subst (λ (x : Numbers). is_free x n ≡ true) is free,
  subst (λ (x : Numbers). d ≡ with_free x n false) is then,
)
drawn_next a (k ∷ ns) b n d (first, is) free then = (first, drawn_next (with_free a k false) ns b n d is free then)

pub numbers-more : (bs : List Block) (c : Block) → numbers_of (bs ++ c ∷ []) ≡ numbers_of bs ++ c.number ∷ []
numbers-more [] c = refl
numbers-more (b ∷ bs) c = ap (λ (ns : List ℕ). b.number ∷ ns) (numbers-more bs c)

zeros-more : (bs : List Block) (c : Block) → bs ≡ map zero_block (numbers_of bs) → c ≡ zero_block c.number
    → bs ++ c ∷ [] ≡ map zero_block (numbers_of (bs ++ c ∷ []))
zeros-more [] c is zero = ap (λ (x : Block). x ∷ []) zero
zeros-more (b ∷ bs) c is zero =
    let first : b ≡ zero_block b.number = cc in
    let others : bs ≡ map zero_block (numbers_of bs) = cc in
    ap (λ (x : Block). x ∷ (bs ++ c ∷ [])) first
    ∙ ap (λ (xs : List Block). zero_block b.number ∷ xs) (zeros-more bs c others zero)

pub draws_one : (count : ℕ) (a b d : Numbers) (bs cs : List Block) (c : Block) → IsDrawnAs count a bs b
    → is_free b c.number ≡ true → d ≡ with_free b c.number false → c ≡ zero_block c.number → cs ≡ bs ++ c ∷ []
    → IsDrawnAs (count + 1) a cs d
draws_one count a b d bs cs c draws free taken zero is =
    let more : IsDrawnAs (count + 1) a (bs ++ c ∷ []) d = record {
      drawn = subst (λ (ns : List ℕ). IsDrawn a ns d) (sym (numbers-more bs c))
          (drawn_next a (numbers_of bs) b c.number d draws.drawn free taken);
      count_is = omega (arith, length_push bs c, draws.count_is);
      zero = zeros-more bs c draws.zero zero;
    } in
    rw is more
