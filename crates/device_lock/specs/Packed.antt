-- A history as stored. For idle device steps, only which steps ran, and for which pass, is stored.
use Rattle.std.specs.Prelude.{◌≡◌, ℕ, ◌≤◌, List, [], ◌∷◌, ◌++◌, length}
use Rattle.device_lock.specs.declared.entry.Entry.{Entry}
use Rattle.device_lock.specs.declared.packed.Packed.{Packed}
use Rattle.device_lock.specs.declared.packed.Rested.{Rested}
use Rattle.device_lock.specs.History.{entry_of}
use Rattle.device_lock.specs.Resting.{idle_entries, steps_in}

-- The entries of idle device steps.
abbrev pub rested_entries : Rested → List Entry
rested_entries r = idle_entries r.pass (steps_in r.steps)

-- Each entry, preceded by the idle steps that ran before it.
abbrev pub packed_entries : List Packed → List Entry
packed_entries [] = []
packed_entries (p ∷ more) = rested_entries p.rested ++ (entry_of p.pass p.event p.reply ∷ packed_entries more)

-- The entries that are stored separately, then the packed entries, then the entries of the idle steps after the last
-- packed entry.
abbrev pub entries_in : List Entry → List Packed → Rested → List Entry
entries_in whole packed rested = whole ++ (packed_entries packed ++ rested_entries rested)

-- `count` is the length of the history, and `room` is large enough to store all its entries separately.
pub record HasRoom (history : List Entry) (count room : ℕ) : Type 0 where
  pub counted : count ≡ length history
  pub fits : count ≤ room
