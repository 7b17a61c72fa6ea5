-- Which points of a gate its members have reached.
use Rattle.std.specs.Prelude.{◌≡◌, ℕ, Bool, true, false, nat_le, max, List, All, take, slice_set, slice_index_or}
use Rattle.pmd.specs.declared.standing.Standing.{Standing}
use Rattle.pmd.specs.declared.standing.Standing.TheVariants.{Outside, At, Left}

-- Whether a member has reached a point or a later one, or has left.
abbrev pub has_come : ℕ → Standing → Bool
has_come point Outside = false
has_come point (At own) = nat_le point own
has_come point Left = true

-- Where a member is after it reaches a point. A member never goes back to an earlier point, and doesn't return after it
-- has left.
abbrev pub moved_to : ℕ → Standing → Standing
moved_to point Outside = At point
moved_to point (At own) = At (max own point)
moved_to point Left = Left

-- Where all members are after one of them reaches a point.
abbrev pub with_one_at : ℕ → ℕ → List Standing → List Standing
with_one_at member point of = slice_set of member (moved_to point (slice_index_or of member Outside))

-- Each of the first `members` members has reached a point or a later one, or has left.
abbrev pub HaveAllCome : ℕ → ℕ → List Standing → Type 0
HaveAllCome point members of = All (λ s. has_come point s ≡ true) (take members of)
