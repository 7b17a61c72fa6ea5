-- A history with other tags: the same calls in the same order, some of them with another pass's tag.
use Rattle.std.specs.Prelude.{[], ◌∷◌, ◌≡◌, Bool, List, false, map, true, ℕ}
use Rattle.driver_laws.specs.StartPrelude.{AreEvents, Entry, IsLegal, State, call_in, delivered, leads_to, sent_since}

-- Two histories contain the same calls in the same order, whichever passes made them.
abbrev pub AreSame : List Entry → List Entry → Type 0
AreSame h g = map call_in h ≡ map call_in g

-- An entry of the driver keeps its tag; any other entry gets another pass's tag.
abbrev pub marked_as : ℕ → Bool → Entry → Entry
marked_as other true e = e
marked_as other false e = record e { pass = other }

-- A history in which each entry gets its tag according to the next mark: true marks an entry as the driver's. Entries
-- after the last mark are unchanged.
abbrev pub retagged : ℕ → List Bool → List Entry → List Entry
retagged other [] h = h
retagged other (is ∷ own) [] = []
retagged other (is ∷ own) (e ∷ es) = marked_as other is e ∷ retagged other own es

-- A retagged history contains the same calls.
abbrev pub RetaggedIsSame : Type 0
RetaggedIsSame = (other : ℕ) (own : List Bool) (h : List Entry) → AreSame (retagged other own h) h

-- Only the tags differ. With other tags, a legal history of events that a driver can make remains such a history. It
-- leads to the same state, and delivers and sends the same packets on each queue.

abbrev pub SameIsLegal : Type 0
SameIsLegal =
    (s : State) (h g : List Entry) → AreSame h g → AreEvents h → IsLegal s h → AreEvents g × IsLegal s g

abbrev pub SameLeads : Type 0
SameLeads = (s : State) (h g : List Entry) → AreSame h g → leads_to s h ≡ leads_to s g

abbrev pub SameDelivers : Type 0
SameDelivers =
    (queue : ℕ) (s : State) (h g : List Entry) → AreSame h g → delivered queue s h ≡ delivered queue s g

abbrev pub SameSends : Type 0
SameSends =
    (queue : ℕ) (s : State) (h g : List Entry) → AreSame h g → sent_since queue s [] h ≡ sent_since queue s [] g
