-- Where the calls of a `Nic` began, and which pass they belong to.
use Rattle.std.specs.Prelude.{◌≡◌, ℕ, Bool, true, false, List, [], ◌∷◌, map}
use Rattle.device_lock.specs.NicDevice.State.{State}
use Rattle.device_lock.specs.History.{AreEvents, IsLegal, entry_of, leads_to}
use Rattle.device_lock.specs.declared.entry.Call.{Call}
use Rattle.device_lock.specs.declared.entry.Entry.{Entry}
use Rattle.pmd_access.specs.Made.{InHand}
use Rattle.pmd_access.specs.Scheduled.{Handled, Scheduled}
use Rattle.pmd_access.specs.Stepped.{AtLock}

-- Either the calls belong to the pass with this bench number and this tag. Or they were made to a device in hand, which
-- was in this state before the first call.
pub data Origin : Type 0 where
  OfPass : ℕ → ℕ → Origin
  From : State → Origin

-- Everything known about where the calls of a `Nic` began is still known.
abbrev pub BeganAs : {A : Type 0} → (A → Origin → Type 0) → A → A → Type 0
BeganAs began old new = (o : Origin) → began old o → began new o

-- The entries are a legal history from this state. Their events are ones that a driver can cause, and they lead to this
-- state of the device.
pub record LeadsTo (s : State) (h : List Entry) (device : State) : Type 0 where
  pub legal : IsLegal s h
  pub events : AreEvents h
  pub leads : leads_to s h ≡ device

-- The history entry for a call made by the pass with this tag.
abbrev pub entry_by : ℕ → Call → Entry
entry_by tag c = entry_of tag c.event c.reply

-- The calls as a history in which each call belongs to pass 0.
abbrev pub entries_in : List Call → List Entry
entries_in calls = map (entry_by 0) calls

-- Each call, in order, has a mark that says whether the call is own. Own calls belong to pass 0, and foreign calls to
-- pass 1.

abbrev pub tag_of : Bool → ℕ
tag_of true = 0
tag_of false = 1

abbrev pub marked_entries : List Call → List Bool → List Entry
marked_entries [] own = []
marked_entries (c ∷ calls) [] = []
marked_entries (c ∷ calls) (is ∷ own) = entry_by (tag_of is) c ∷ marked_entries calls own

-- The calls are a legal history that leads from the state before the first call to the device in hand.
abbrev pub began_in_hand : InHand → Origin → Type 0
began_in_hand h (OfPass bench tag) = ⊥
began_in_hand h (From s) = LeadsTo s (entries_in h.calls) h.device

-- The own and foreign calls together are a legal history that leads from the state before the first call to the device.
abbrev pub began_handled : Handled → Origin → Type 0
began_handled h (OfPass bench tag) = ⊥
began_handled h (From s) = LeadsTo s (marked_entries h.calls h.own) h.device

abbrev pub began_scheduled : Scheduled → Origin → Type 0
began_scheduled i = began_handled i.handled

-- The calls belong to the pass with this bench number and this tag.
abbrev pub began_at_lock : AtLock → Origin → Type 0
began_at_lock t (OfPass bench tag) = (t.pass.bench ≡ bench) × (t.pass.tag ≡ tag)
began_at_lock t (From s) = ⊥
