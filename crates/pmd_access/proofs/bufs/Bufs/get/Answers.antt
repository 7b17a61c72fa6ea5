use Rattle.std.proofs.Common.{◌≡◌, ◌<◌, ℕ, List, [], Option, Some, None, length, get_or, sym, ap, ◌∙◌, arith}
use Rattle.device_lock.specs.NicDevice.DmaArena.Block.{Block}
use Rattle.pmd_access.specs.Bufs.{StandFirst, blocks_in}
use Rattle.pmd_access.proofs.Standing.{stand_count, stand_few, stand_at}
use Rattle.pmd_access.proofs.bufs.Bufs.get.Goals as goal

below : (n k : ℕ) (places : List (Option Block)) (bs : List Block) → StandFirst n places → blocks_in places ≡ bs
    → k < length bs → k < n
below n k places bs is same i =
    let e = ap (λ (xs : List Block). length xs) same in
    let f = stand_count n places is in omega (arith, i, e, f)

pub offset_bounds-places-number : goal.offset_bounds-places-number
offset_bounds-places-number c =
    let i = below c.self.inside.count c.args.number c.self.inside.places c.args.self.now c.self.invariant.0
    c.self.view_is c.requires in
    let few = stand_few c.self.inside.count c.self.inside.places c.self.invariant.0 in
    let five = c.self.invariant.1 in
    omega (arith, i, few, five)

pub listed : goal.listed
listed c =
    let i = below c.self.inside.count c.args.number c.self.inside.places c.args.self.now c.self.invariant.0
    c.self.view_is c.requires in
    let few = stand_few c.self.inside.count c.self.inside.places c.self.invariant.0 in
    let five = c.self.invariant.1 in
    let reported = c.self.invariant.1 in
    omega (arith, i, few, five, reported)

pub bounds-places-number : goal.bounds-places-number
bounds-places-number c =
    let i = below c.self.inside.count c.args.number c.self.inside.places c.args.self.now c.self.invariant.0
    c.self.view_is c.requires in
    let few = stand_few c.self.inside.count c.self.inside.places c.self.invariant.0 in
    let five = c.self.invariant.1 in
    omega (arith, i, few, five)

none_there : (n k : ℕ) (places : List (Option Block)) (d : Option Block) (b : Block) → StandFirst n places → k < n
    → get_or places k d ≡ None → ⊥
none_there n k places d b is i none = let e = stand_at n places k d b is i in cc

pub unreachable-requires : goal.unreachable-requires
unreachable-requires c =
    let i = below c.self.inside.count c.args.number c.self.inside.places c.args.self.now c.self.invariant.0
    c.self.view_is c.requires in
    let b : Block = record { number = 0; bytes = [] } in
    none_there c.self.inside.count c.args.number c.self.inside.places c.index-places-number.result b
    c.self.invariant.0 i c.in-None.is

there : (n k : ℕ) (places : List (Option Block)) (bs : List Block) (d : Option Block) (b : Block)
    → StandFirst n places → blocks_in places ≡ bs → k < n → get_or places k d ≡ Some b → b ≡ get_or bs k b
there n k places bs d b is same i some =
    let e = stand_at n places k d b is i in
    let f : get_or (blocks_in places) k b ≡ get_or bs k b = ap (λ (xs : List Block). get_or xs k b) same in
    let g : Some b ≡ Some (get_or (blocks_in places) k b) = sym some ∙ e in
    let h : b ≡ get_or (blocks_in places) k b = cc in h ∙ f

pub returns : goal.returns
returns c =
    let i = below c.self.inside.count c.args.number c.self.inside.places c.args.self.now c.self.invariant.0
    c.self.view_is c.requires in
    there c.self.inside.count c.args.number c.self.inside.places c.args.self.now c.index-places-number.result
    c.in-Some.buf c.self.invariant.0 c.self.view_is i c.in-Some.is
