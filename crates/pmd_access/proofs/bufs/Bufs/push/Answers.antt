use Rattle.std.proofs.Common.{◌≡◌, ◌<◌, ℕ, List, Option, length, ap, arith}
use Rattle.device_lock.specs.NicDevice.DmaArena.Block.{Block}
use Rattle.pmd_access.specs.Bufs.{StandFirst, blocks_in}
use Rattle.pmd_access.proofs.Standing.{stand_count}
use Rattle.pmd_access.proofs.bufs.Bufs.push.Goals as goal

below : (n : ℕ) (places : List (Option Block)) (bs : List Block) → StandFirst n places → blocks_in places ≡ bs
    → length bs < 5 → n < 5
below n places bs is same i =
    let e = ap (λ (xs : List Block). length xs) same in
    let f = stand_count n places is in omega (arith, i, e, f)

pub offset_bounds-self-inside-self-inside : goal.offset_bounds-self-inside-self-inside
offset_bounds-self-inside-self-inside c =
    let i = below c.self.inside.count c.self.inside.places c.args.self.now c.self.invariant.0 c.self.view_is
    c.requires in
    omega (arith, i)

pub listed : goal.listed
listed c =
    let i = below c.self.inside.count c.self.inside.places c.args.self.now c.self.invariant.0 c.self.view_is
    c.requires in
    let reported = c.self.invariant.1 in
    omega (arith, i, reported)

pub bounds-self-inside-self-inside : goal.bounds-self-inside-self-inside
bounds-self-inside-self-inside c =
    let i = below c.self.inside.count c.self.inside.places c.args.self.now c.self.invariant.0 c.self.view_is
    c.requires in
    omega (arith, i)

pub overflow_add-self : goal.overflow_add-self
overflow_add-self c =
    let i = below c.self.inside.count c.self.inside.places c.args.self.now c.self.invariant.0 c.self.view_is
    c.requires in
    omega (arith, i)
