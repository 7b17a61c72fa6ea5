-- Lemmas: the test of a history decides whether each entry after the pass's first one leaves a queue alone.
use Rattle.std.proofs.Common.{◌≡◌, ℕ, Bool, true, false, not, ◌||◌, List, [], ◌∷◌, ◌++◌, refl, sym, ap, ◌∙◌, subst}
use Rattle.std.specs.Prelude.{◌==◌, ◌↔◌, IsTrue}
use Rattle.std.proofs.lemmas.Bool.{and_parts, and_from}
use Rattle.nic_device.specs.VfMap.declared.mode.Mode.{Mode}
use Rattle.nic_device.specs.VfMap.declared.mode.Mode.TheVariants.{Off}
use Rattle.device_lock.specs.declared.alone.Watched.{Watched}
use Rattle.device_lock.specs.declared.entry.Entry.{Entry}
use Rattle.device_lock.specs.Alone.{Blocks, EntryLeavesAlone, LeavesAlone, has_begun, lent_by, mode_after, mode_through}
use Rattle.device_lock.specs.Watching.{leaves_alone, rest_leaves_alone}
use Rattle.device_lock.proofs.Sparing.{entry_agrees}

module _ (w : Watched) (table mine : Blocks) (same : (number : ℕ) → table number ≡ mine number) where
  -- Each remaining entry leaves the queue alone after the pass has begun.
  abbrev RestLeaves : Mode → Bool → List Entry → Type 0
  RestLeaves mode begun h =
      (before : List Entry) (e : Entry) (after : List Entry) → h ≡ before ++ e ∷ after
      → IsTrue (begun || has_begun w.pass before) → EntryLeavesAlone w mine (mode_through w.vfs mode before) e

  here : (mode : Mode) (begun : Bool) (e : Entry) → (not begun || leaves_alone w table mode e) ≡ true
      → (begun || false) ≡ true → EntryLeavesAlone w mine mode e
  here mode true e h is = (entry_agrees table mine same w mode e).0 h
  here mode false e h is = cc

  from_here : (mode : Mode) (begun : Bool) (e : Entry) → ((begun || false) ≡ true → EntryLeavesAlone w mine mode e)
      → (not begun || leaves_alone w table mode e) ≡ true
  from_here mode true e h = (entry_agrees table mine same w mode e).1 (h refl)
  from_here mode false e h = refl

  begun_by : (begun : Bool) (e : Entry) (before : List Entry)
      → ((begun || (e.pass == w.pass)) || has_begun w.pass before) ≡ (begun || has_begun w.pass (e ∷ before))
  begun_by true e before = refl
  begun_by false e before = refl

  each : (mode : Mode) (begun : Bool) (h : List Entry) → rest_leaves_alone w table mode begun h ≡ true
      → RestLeaves mode begun h
  each mode begun [] is [] e after split started = cc
  each mode begun [] is (g ∷ before) e after split started = cc
  each mode begun (f ∷ h) is [] e after split started =
      let first : f ≡ e = cc in
      subst (EntryLeavesAlone w mine mode) first (here mode begun f (and_parts _ _ is).0 started)
  each mode begun (f ∷ h) is (g ∷ before) e after split started =
      let first : g ≡ f = cc in
      let rest : h ≡ before ++ e ∷ after = cc in
      rw first
      (each (mode_after w.vfs mode f.event) (begun || (f.pass == w.pass)) h (and_parts _ _ is).1 before e after rest
      (begun_by begun f before ∙ rw (← first) started))

  all : (mode : Mode) (begun : Bool) (h : List Entry) → RestLeaves mode begun h
      → rest_leaves_alone w table mode begun h ≡ true
  all mode begun [] leaves = refl
  all mode begun (f ∷ h) leaves =
      and_from _ _ (from_here mode begun f (leaves [] f h refl))
      (all (mode_after w.vfs mode f.event) (begun || (f.pass == w.pass)) h (λ before e after split started.
      leaves (f ∷ before) e after (ap (λ rest. f ∷ rest) split) (sym (begun_by begun f before) ∙ started)))

-- The test of a history, given a table of the blocks that the pass lends.
pub test_decides : (w : Watched) (table : Blocks) (h : List Entry)
    → ((number : ℕ) → table number ≡ lent_by w.pass h number)
    → IsTrue (rest_leaves_alone w table Off false h) ↔ LeavesAlone w h
test_decides w table h same = (
  each w table (lent_by w.pass h) same Off false h,
  all w table (lent_by w.pass h) same Off false h,
)
