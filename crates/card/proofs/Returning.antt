-- Blocks taken from lent memory and returned, and memory without lent blocks.
use Rattle.std.proofs.Common.{◌≡◌, refl, sym, ◌∙◌, ap, ℕ, ◌<◌, Bool, true, false, is_some, List, Option, Some, None, arith, inl, inr}
use Rattle.std.specs.FinMap as map
use Rattle.std.proofs.lemmas.Bool.Decides.{eqb_tells}
use Rattle.nic_device.specs.DmaArena.Block.{Block}
use Rattle.nic_device.specs.DmaArena.Memory.{Memory, has_block, block_at}
use Rattle.nic_device.specs.DmaArena.Numbers.{Numbers, count_of, with_free}
use Rattle.nic_device.proofs.DmaArena.Arenas.{own_within}
use Rattle.nic_device.proofs.DmaArena.Bus.{get-remove_same, get-remove_other}
use Rattle.card.specs.Card.{AreShared}
use Rattle.card.proofs.Sharing.{shared-taken}

-- A block taken from lent memory.
pub taken_block : (m : Memory) (n : ℕ) (b : Block) (found : Option (List ℕ)) → map.get m n ≡ found
    → block_at m n ≡ Some b → (b.number ≡ n) × (has_block m n ≡ true)
taken_block m n b None is e = (let no : None ≡ Some b = rw is at e in cc)
taken_block m n b (Some bytes) is e =
    (let same : Some (let block : Block = record { number = n; bytes = bytes } in block) ≡ Some b = rw is at e in
    let block : (let block : Block = record { number = n; bytes = bytes } in block) ≡ b = cc in
    (sym (ap (λ (x : Block). x.number) block), ap is_some is))

pub returned-shared : (m after : Memory) (a given : Numbers) (n : ℕ) (b : Block) → AreShared m a
    → block_at m n ≡ Some b → after ≡ map.remove m n
    → given ≡ with_free a b.number true → AreShared after given
returned-shared m after a given n b h found left back =
    let block = taken_block m n b (map.get m n) refl found in
    rw (left, back, block.0) (shared-taken m a n h block.1)

pub removed_same : (m : Memory) (n : ℕ) → has_block (map.remove m n) n ≡ false
removed_same m n = ap is_some (get-remove_same m n)

pub removed_other : (m : Memory) (n other : ℕ) → has_block m other ≡ false → has_block (map.remove m n) other ≡ false
removed_other m n other away = elim (eqb_tells other n) [
  | inl (test, is) ↦ rw is (removed_same m n)
  | inr (test, differs) ↦ ap is_some (get-remove_other m n other differs) ∙ away
]

-- If none of the arena's blocks is lent, no block is lent.
pub none_lent : (m : Memory) (a : Numbers) (n : ℕ) (lent : Bool) → AreShared m a
    → (n < count_of a → has_block m n ≡ false) → has_block m n ≡ lent → lent ≡ false
none_lent m a n true h below is =
    let within = own_within a n (h.few n is) in
    let small : n < count_of a = omega (arith, within.1, h.first) in
    sym is ∙ below small
none_lent m a n false h below is = refl
