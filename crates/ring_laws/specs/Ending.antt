-- How a history is closed with the returned passes, and where a pass's entries are.
use Rattle.std.specs.Prelude.{◌≡◌, ◌≢◌, ◌↔◌, ◌<◌, ◌≤◌, ◌==◌, ◌&&◌, ℕ, Bool, true, false, List, length, Contains, AllPairs}
use Rattle.std.specs.Prelude.{count_by, slice_get, Option, Some, None}
use Rattle.std.specs.List.{list_any}
use Rattle.device_lock.specs.Closing.{Answers}
use Rattle.device_lock.specs.History.{calls_of}
use Rattle.device_lock.specs.Positions.{positions_of}
use Rattle.ring_laws.specs.LocksPrelude.{PassValue, Entry, CloseFault, MissingPass, ForeignPass, Mismatch}

-- Whether a pass of the bench has this tag.
abbrev pub is_there : ℕ → ℕ → List PassValue → Bool
is_there bench tag passes = list_any (λ p. p.bench == bench && p.tag == tag) passes

-- If no pass has some tag, the lowest such tag is reported, whatever else is wrong: passes of other benches, a pass
-- that is returned twice, or calls that the history doesn't contain. If each tag has a pass, a pass of another bench,
-- or a pass whose tag isn't one of this bench's, is reported.
pub record ClosingTells (bench count : ℕ) (h : List Entry) (passes : List PassValue) (answer : Option CloseFault) :
    Type 0 where
  pub missing : (tag : ℕ) → tag < count → is_there bench tag passes ≡ false →
      ((lower : ℕ) → lower < tag → is_there bench lower passes ≡ true) → answer ≡ Some (MissingPass tag)
  pub foreign : ((tag : ℕ) → tag < count → is_there bench tag passes ≡ true) → (p : PassValue) →
      Contains passes p → p.bench ≢ bench → answer ≡ Some ForeignPass
  pub untagged : ((tag : ℕ) → tag < count → is_there bench tag passes ≡ true) → (p : PassValue) →
      Contains passes p → count ≤ p.tag → answer ≡ Some ForeignPass

-- If each tag has a pass, a tag with two passes is reported too. If the calls of a pass differ from the history's calls
-- for its tag, a fault is reported. If the reported fault is such a difference, no lower tag has one.
pub record ClosingCompares (bench count : ℕ) (h : List Entry) (passes : List PassValue) (answer : Option CloseFault) :
    Type 0 where
  pub twice : ((tag : ℕ) → tag < count → is_there bench tag passes ≡ true) → (tag : ℕ) → tag < count →
      1 < count_by (λ p. p.bench == bench && p.tag == tag) passes → answer ≡ Some ForeignPass
  pub noticed : (p : PassValue) → Contains passes p → calls_of p.tag h ≢ p.calls → answer ≢ None
  pub lowest : (tag : ℕ) → answer ≡ Some (Mismatch tag) → (p : PassValue) → Contains passes p → p.tag < tag →
      calls_of p.tag h ≡ p.calls

abbrev pub ClosingHasAnOrder : Type 0
ClosingHasAnOrder =
    (bench count : ℕ) (h : List Entry) (passes : List PassValue) (answer : Option CloseFault) →
    Answers bench count h passes answer → ClosingTells bench count h passes answer

abbrev pub ClosingIsCompared : Type 0
ClosingIsCompared =
    (bench count : ℕ) (h : List Entry) (passes : List PassValue) (answer : Option CloseFault) →
    Answers bench count h passes answer → ClosingCompares bench count h passes answer

-- Position p is listed exactly if entry p, counted from 0, has the tag. The positions ascend.
pub record PositionsAre (tag : ℕ) (h : List Entry) : Type 0 where
  pub listed : (p : ℕ) (e : Entry) → slice_get h p ≡ Some e → Contains (positions_of tag h) p ↔ (e.pass ≡ tag)
  pub inside : (p : ℕ) → Contains (positions_of tag h) p → p < length h
  pub ascend : AllPairs ◌<◌ (positions_of tag h)

abbrev pub PositionsAreExact : Type 0
PositionsAreExact = (tag : ℕ) (h : List Entry) → PositionsAre tag h
