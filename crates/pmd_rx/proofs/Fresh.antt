-- Lemmas about blocks taken from the driver's arena.
use Rattle.std.proofs.Common.{◌≡◌, ◌≢◌, inl, inr, ℕ, ◌+◌, ◌<◌, true, false, List, length, get_or, subst, ◌∙◌, arith}
use Rattle.std.proofs.lemmas.Bool.{cases_Bool}
use Rattle.pmd_access.specs.NicDevice.DmaArena.Block.{Block}
use Rattle.pmd_access.specs.NicDevice.DmaArena.Numbers.{Numbers, is_own, is_free, with_free}
use Rattle.pmd_access.proofs.NicDevice.DmaArena.Arenas.{is_own-of_free, is_own-with_free, is_free-with_free_same}
use Rattle.pmd_access.proofs.NicDevice.DmaArena.Cuts.{given_back}
use Rattle.pmd_access.specs.NicDevice.DmaArena.Whereabouts.{times_in_hand}
use Rattle.pmd_access.specs.Home.{AreOut}
use Rattle.pmd_access.specs.Slots.{ring_blocks, is_ring_block}
use Rattle.pmd_access.proofs.Outside.{times_at, times-append, out_free}
use Rattle.pmd_access.proofs.Rings.{ring_block_times}
use Rattle.pmd_rx.specs.Keeping.{blocks_out}
use Rattle.pmd_rx.specs.Receive.{Receive, CanLend, LendsNext, MayLend, reach}
use Rattle.pmd_rx.proofs.Keeping.{times_out}

-- A block that isn't out differs from all blocks that are out.
pub none_of : (xs : List ℕ) (n i : ℕ) → times_in_hand xs n ≡ 0 → i < length xs → get_or xs i 0 ≢ n
none_of xs n i none below same =
    let some : 0 < times_in_hand xs n = subst (λ (m : ℕ). 0 < times_in_hand xs m) same (times_at xs i 0 below) in
    absurd (omega (arith, some, none))

not_among : (ring size n : ℕ) → times_in_hand (ring_blocks ring size) n ≡ 0 → is_ring_block ring size n ≡ false
not_among ring size n none = elim (cases_Bool (is_ring_block ring size n)) [
  | inl is ↦ absurd (omega (arith, none, rw is at (ring_block_times ring size n)))
  | inr other ↦ other
]

-- A free block may be lent.
pub may_lend : (a : Numbers) (v : Receive) (b : Block) → is_free a b.number ≡ true → AreOut a (blocks_out v)
    → b.number < 65536 → length (reach v).blocks + 1 < v.layout.size → length b.bytes ≡ 2048 → MayLend (reach v) b
may_lend a v b free out low room whole =
    let l = reach v in
    let none : times_in_hand (blocks_out v) b.number ≡ 0 = out_free a (blocks_out v) b.number out free in
    let parts = times_out v b.number in
    let slots : times_in_hand l.blocks b.number ≡ 0 =
    omega (arith, none, parts, times-append v.layout.blocks v.named b.number) in
    let ring : times_in_hand (ring_blocks l.ring l.size) b.number ≡ 0 = omega (arith, none, parts) in
    record {
      low = low;
      not_ring = not_among l.ring l.size b.number ring;
      apart = λ k below. none_of l.blocks b.number k slots below;
      room = room;
      whole = whole;
    }

pub lends_own : (a : Numbers) (v : Receive) (b : Block) → CanLend v.stage v.seen → is_free a b.number ≡ true
    → AreOut a (blocks_out v) → b.number < 65536 → length (reach v).blocks + 1 < v.layout.size
    → length b.bytes ≡ 2048 → LendsNext v b
lends_own a v b can free out low room whole = record { stage = can; may = may_lend a v b free out low room whole }

-- A block that was taken from the arena and is returned to it.
pub own_after : (a b : Numbers) (n m : ℕ) → is_free a n ≡ true → b ≡ with_free a n false → m ≡ n → is_own b m ≡ true
own_after a b n m free taken same = rw (same, taken, is_own-with_free a n false n) (is_own-of_free a n free)

pub away_after : (a b : Numbers) (n m : ℕ) → is_free a n ≡ true → b ≡ with_free a n false → m ≡ n
    → is_free b m ≡ false
away_after a b n m free taken same =
    rw (same, taken) (is_free-with_free_same a n false (is_own-of_free a n free))

pub back_home : (a b d : Numbers) (n m : ℕ) → is_free a n ≡ true → b ≡ with_free a n false → m ≡ n
    → d ≡ with_free b m true → d ≡ a
back_home a b d n m free taken same given = given ∙ rw (same, taken) (given_back a n free)
