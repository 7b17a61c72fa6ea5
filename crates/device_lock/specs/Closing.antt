-- Which passes close a history.
use Rattle.std.specs.Prelude.{◌≡◌, ◌≢◌, ℕ, ◌<◌, ◌==◌, ◌&&◌, List, All, count_by, Option, Some, None}
use Rattle.nic_device.specs.State.{State, new_state}
use Rattle.device_lock.specs.declared.entry.Entry.{Entry}
use Rattle.device_lock.specs.declared.fault.CloseFault.{CloseFault}
use Rattle.device_lock.specs.declared.fault.CloseFault.TheVariants.{MissingPass, ForeignPass, Mismatch, OutOfMemory}
use Rattle.device_lock.specs.History.{IsLegal, AllBelow, calls_of}
use Rattle.device_lock.specs.Kept.{entries_of}
use Rattle.device_lock.specs.Pass.{PassValue, IsOwn}

-- A closed device: the device, the history of its calls, and the number of passes.
pub record ClosedValue : Type 0 where
  pub device : State
  pub history : List Entry
  pub passes : ℕ

-- How many of the bench's passes have this tag.
abbrev pub tag_count : ℕ → ℕ → List PassValue → ℕ
tag_count bench tag ps = count_by (λ (p : PassValue). (p.bench == bench) && (p.tag == tag)) ps

-- The calls of the pass are exactly the entries with its tag, in order.
abbrev pub StandsIn : List Entry → PassValue → Type 0
StandsIn h p = calls_of p.tag h ≡ p.calls

-- No tag is missing.
abbrev pub AllThere : ℕ → ℕ → List PassValue → Type 0
AllThere bench count ps = (tag : ℕ) → tag < count → 0 < tag_count bench tag ps

-- These are all of the bench's passes, exactly one for each tag.
pub record AreAll (bench count : ℕ) (ps : List PassValue) : Type 0 where
  pub own : All (IsOwn bench count) ps
  pub once : (tag : ℕ) → tag < count → tag_count bench tag ps ≡ 1

-- Each pass with this tag has the calls that the history records for the tag. If no pass has the tag, no entry has it.
pub record TagStands (h : List Entry) (tag : ℕ) (ps : List PassValue) : Type 0 where
  pub own : All (λ p. p.tag ≡ tag → StandsIn h p) ps
  pub none : All (λ p. p.tag ≢ tag) ps → entries_of tag h ≡ 0

-- This is the lowest missing tag.
pub record IsMissing (bench count : ℕ) (ps : List PassValue) (tag : ℕ) : Type 0 where
  pub below : tag < count
  pub absent : tag_count bench tag ps ≡ 0
  pub lowest : (other : ℕ) → other < tag → 0 < tag_count bench other ps

-- No tag is missing, and a pass belongs to another bench, has a tag that isn't one of this bench's, or has the tag of
-- another pass.
abbrev pub IsSurplus : ℕ → ℕ → List PassValue → Type 0
IsSurplus bench count ps = AllThere bench count ps × ¬ AreAll bench count ps

-- This is the lowest tag for which the entries aren't the calls of its pass, or which has entries but no pass.
pub record IsMismatch (h : List Entry) (ps : List PassValue) (tag : ℕ) : Type 0 where
  pub below : tag < 64
  pub differs : ¬ TagStands h tag ps
  pub lowest : (other : ℕ) → other < tag → TagStands h other ps

-- These passes close a history: they are all of the bench's passes, each pass's calls are in the history in order, and
-- the history contains no other entries.
pub record Closes (bench count : ℕ) (h : List Entry) (ps : List PassValue) : Type 0 where
  pub all : AreAll bench count ps
  pub stand : All (StandsIn h) ps
  pub below : AllBelow count h

-- What closing returns: `None` if the passes close the history. Otherwise it returns the first that applies of these:
-- the lowest missing tag, a surplus pass, or the lowest tag with different calls.
abbrev pub Answers : ℕ → ℕ → List Entry → List PassValue → Option CloseFault → Type 0
Answers bench count h ps None = Closes bench count h ps
Answers bench count h ps (Some (MissingPass tag)) = IsMissing bench count ps tag
Answers bench count h ps (Some ForeignPass) = IsSurplus bench count ps
Answers bench count h ps (Some (Mismatch tag)) = AreAll bench count ps × IsMismatch h ps tag
Answers bench count h ps (Some OutOfMemory) = ⊥

-- In some legal history of a new device, this is the lowest tag for which the entries aren't the calls of its pass, or
-- which has entries but no pass.
pub record Differs (vfs fifo : ℕ) (ps : List PassValue) (tag : ℕ) : Type 0 where
  pub history : List Entry
  pub legal : IsLegal (new_state vfs fifo) history
  pub differs : IsMismatch history ps tag
