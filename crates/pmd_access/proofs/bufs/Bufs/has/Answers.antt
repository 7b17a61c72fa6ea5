use Rattle.std.proofs.Common.{◌≡◌, ◌<◌, ℕ, zero, suc, List, [], ◌∷◌, length, get_or, subst, sym, ◌∙◌, refl, arith}
use Rattle.device_lock.specs.NicDevice.DmaArena.Block.{Block}
use Rattle.device_lock.specs.NicDevice.DmaArena.Whereabouts.{times_in_hand}
use Rattle.pmd_access.specs.Bufs.{numbers_of}
use Rattle.pmd_access.proofs.Outside.{times_first, times-cons}
use Rattle.pmd_access.proofs.bufs.Bufs.has.Goals as goal

at_first : (c b : Block) (ns : List ℕ) → b ≡ c → 0 < times_in_hand (c.number ∷ ns) b.number
at_first c b ns same =
    subst (λ (x : Block). 0 < times_in_hand (c.number ∷ ns) x.number) (sym same)
    (omega (arith, times_first ns c.number))

has_at : (bs : List Block) (k : ℕ) (b : Block) → k < length bs → b ≡ get_or bs k b
    → 0 < times_in_hand (numbers_of bs) b.number
has_at [] k b below is = absurd (omega (arith, below))
has_at (c ∷ bs) zero b below is = at_first c b (numbers_of bs) is
has_at (c ∷ bs) (suc k) b below is =
    let rest = has_at bs k b (omega (arith, below)) is in
    omega (arith, times-cons c.number (numbers_of bs) b.number, rest)

pub returns-then-block : goal.returns-then-block
returns-then-block c =
    let count = c.count-number-end.ensures.count in
    let end = c.loop-number.auto.number-end in
    let test = c.loop-number-test.true in
    let some = has_at c.args.self.now c.loop-number.number c.get.result.now (omega (arith, count, end, test))
    c.get.ensures in
    let same : c.get.result.now.number ≡ c.args.block = sym c.block.ensures.number ∙ c.if-block.true in (
      λ is. subst (λ (n : ℕ). 0 < times_in_hand (numbers_of c.args.self.now) n) same some,
      λ is. refl,
    )
