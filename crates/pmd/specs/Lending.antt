-- Whether nobody else lends a driver's blocks, according to a history's entries: no other pass lends any, and none is
-- lent when the driver starts.
use Rattle.std.specs.Prelude.{ℕ, ◌≡◌, ◌≢◌, ◌+◌, ◌==◌, nat_le, nat_lt, Bool, true, false, not, ◌&&◌, ◌||◌, ⊤, IsTrue, IsFalse, List, [], ◌∷◌, length}
use Rattle.pmd_driver.specs.NicDevice.DmaArena.Block.{Block}
use Rattle.pmd_driver.specs.NicDevice.declared.event.Event.{Event}
use Rattle.pmd_driver.specs.NicDevice.declared.event.Event.TheVariants as event
use Rattle.pmd_driver.specs.NicDevice.declared.event.Reply.{Reply}
use Rattle.pmd_driver.specs.NicDevice.declared.event.Reply.TheVariants.{Buf}
use Rattle.pmd_driver.specs.DeviceLock.Alone.{Blocks, lends}
use Rattle.pmd_driver.specs.DeviceLock.declared.alone.Watched.{Watched}
use Rattle.pmd_driver.specs.DeviceLock.declared.entry.Call.{Call}
use Rattle.pmd_driver.specs.DeviceLock.declared.entry.Entry.{Entry}
use Rattle.pmd.specs.Before.{known_through}
use Rattle.pmd.specs.Starts.{Starts}

-- The `count` blocks starting at `first`.
abbrev pub are_from : (first count : ℕ) → Blocks
are_from first count number = nat_le first number && nat_lt number (first + count)

-- Whether an event lends none of these blocks, whatever its reply; and whether no other pass lends any of them in a
-- history.

abbrev pub lends_none : Blocks → Event Block → Bool
lends_none own (event.Lend block) = not (own block.number)
lends_none own other = true

abbrev pub only_pass_lends : ℕ → Blocks → List Entry → Bool
only_pass_lends pass own [] = true
only_pass_lends pass own (e ∷ es) = ((e.pass == pass) || lends_none own e.event) && only_pass_lends pass own es

-- Whether an entry takes back a block.
abbrev pub takes : Event Block → Reply Block → Blocks
takes (event.Take taken) (Buf block) number = number == taken
takes event reply number = false

-- The blocks that are lent after an entry, and after all entries of a new device's history. An entry only lends block
-- numbers below 65,536.

abbrev pub lent_after : Blocks → Entry → Blocks
lent_after lent e number =
    (nat_lt number 65536 && lends e.event e.reply number) || (lent number && not (takes e.event e.reply number))

abbrev pub no_block : Blocks
no_block number = false

abbrev pub lent_through : List Entry → Blocks
lent_through h = known_through lent_after no_block h

-- None of these blocks is lent just before the driver's first entry, which comes after `from` calls of its pass.
abbrev pub NoneLentBefore : Watched → ℕ → Blocks → List Entry → Type 0
NoneLentBefore w from own h =
    (old : List Call) → length old ≡ from → (x : Starts w.pass old h) → (number : ℕ) → IsTrue (own number) →
    IsFalse (lent_through x.before number)

-- No entry of another pass lends any of these blocks.
abbrev pub OnlyPassLends : ℕ → Blocks → List Entry → Type 0
OnlyPassLends pass own [] = ⊤
OnlyPassLends pass own (e ∷ es) = (e.pass ≢ pass → IsTrue (lends_none own e.event)) × OnlyPassLends pass own es

-- Nobody else lends a driver's blocks: no entry of another pass lends any, and none is lent when the driver starts.
pub record OthersLendNone (w : Watched) (from : ℕ) (own : Blocks) (h : List Entry) : Type 0 where
  pub others : OnlyPassLends w.pass own h
  pub none : NoneLentBefore w from own h
