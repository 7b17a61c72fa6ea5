use Rattle.std.proofs.Common.{◌≡◌, ◌++◌, ◌∷◌, ◌∙◌, ℕ, ◌-◌, List, Option, Some, None, length, get_or, set, drop, take, sym, arith}
use Rattle.std.proofs.lemmas.List.{length-set}
use Rattle.device_lock.specs.NicDevice.DmaArena.Block.{Block}
use Rattle.pmd_access.specs.Bufs.{StandFirst, blocks_in}
use Rattle.pmd_access.proofs.Standing.{rest_of, rotated_length}
use Rattle.pmd_access.proofs.bufs.Bufs.take_first.Goals as goal

moved_up : (n : ℕ) (places now : List (Option Block)) (first : Block) (d none : Option Block) → StandFirst n places
    → length places ≡ 5 → Some first ≡ get_or places 0 d → none ≡ None
    → now ≡ drop 1 (set places 0 none) ++ take 1 (set places 0 none)
    → (StandFirst (n - 1) now) × (blocks_in places ≡ first ∷ blocks_in now) × (length now ≡ 5)
moved_up n places now first d none is five there gone same =
    let r = rest_of n places first d is (omega (arith, five)) (sym there) in
    rw (same, gone) (r.0, r.1, rotated_length (set places 0 None) (length-set places 0 None ∙ five))

pub invariant_of-self-2 : goal.invariant_of-self-2
invariant_of-self-2 c =
    let m = moved_up c.self.inside.count c.self.inside.places c.rotate_left.new.self c.in_ok-first.first _
    c.take.new.self c.self.invariant.0 c.self.invariant.1 c.in_ok-first.ensures.value c.in_ok-first.ensures.after
    c.rotate_left.ensures.after in
    (m.0, m.2)

pub returns-clause-first : goal.returns-clause-first
returns-clause-first c =
    let m = moved_up c.self.inside.count c.self.inside.places c.rotate_left.new.self c.in_ok-first.first _
    c.take.new.self c.self.invariant.0 c.self.invariant.1 c.in_ok-first.ensures.value c.in_ok-first.ensures.after
    c.rotate_left.ensures.after in
    sym c.self.view_is ∙ m.1
