-- Entries before the point where the device agrees with both halves, for example those of a driver's start.
use Rattle.std.specs.Prelude.{[], ⊤, ◌*◌, ◌==◌, ◌||◌, ◌∷◌, ◌≢◌, ◌≤◌, All, List, false, ℕ}
use Rattle.pmd_driver.specs.NicDevice.RegisterFile.Settings.{frame_limit}
use Rattle.driver_laws.specs.StartPrelude.{AreEvents, Block, Blocks, Call, Entry, Event, FitsBlocks, IsLegal, LendsNone}
use Rattle.driver_laws.specs.StartPrelude.{OnlyLent, State}
use Rattle.driver_laws.specs.StartPrelude.{WritesNoSetting, after, either, leads_to, lent_by}
use Rattle.pmd_driver.specs.NicDevice.declared.event.Event.TheVariants as event

-- Each frame that waits for a queue fits `most` blocks, and the device accepts no longer frame.
pub record AreShort (queue most : ℕ) (s : State) : Type 0 where
  pub limit : frame_limit s.registers ≤ 2048 * most
  pub waiting : All (FitsBlocks queue most) s.waiting

-- No entry writes a setting.
abbrev pub NoneSets : State → List Entry → Type 0
NoneSets s [] = ⊤
NoneSets s (e ∷ es) = WritesNoSetting s e.event × NoneSets (after s e.event) es

-- No other pass tries to lend a block of `own`.
abbrev pub OnlyPassLends : ℕ → Blocks → List Entry → Type 0
OnlyPassLends pass own [] = ⊤
OnlyPassLends pass own (e ∷ es) = (e.pass ≢ pass → LendsNone own e.event) × OnlyPassLends pass own es

-- `asks_for` says whether an event tries to lend the block with this number, whatever the reply. `is_asked` says
-- whether one of the given calls did.

abbrev pub asks_for : Event Block → Blocks
asks_for (event.Lend block) number = block.number == number
asks_for other number = false

abbrev pub is_asked : List Call → Blocks
is_asked [] number = false
is_asked (c ∷ calls) number = asks_for c.event number || is_asked calls number

-- If the entries write no setting, each frame that waits for a queue still fits `most` blocks after them.
abbrev pub FramesStayShortAlong : Type 0
FramesStayShortAlong =
    (queue most : ℕ) (s : State) (es : List Entry) → AreShort queue most s → NoneSets s es →
    AreShort queue most (leads_to s es)

-- Of the blocks `own`, only those are lent that were lent before these entries or that the pass lent.
abbrev pub OnlyPassLent : Type 0
OnlyPassLent =
    (pass : ℕ) (own known : Blocks) (s : State) (es : List Entry) → IsLegal s es → AreEvents es →
    OnlyPassLends pass own es → OnlyLent own known s.memory →
    OnlyLent own (either known (lent_by pass es)) (leads_to s es).memory
