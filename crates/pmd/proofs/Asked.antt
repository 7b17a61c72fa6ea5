-- Lemmas: the test of a history decides whether nothing tried to enable the queue.
use Rattle.std.proofs.Common.{◌≡◌, ℕ, false, not, List, [], ◌∷◌, ◌++◌, Option, refl, ap, subst}
use Rattle.std.specs.Prelude.{◌↔◌, IsTrue, IsFalse}
use Rattle.std.proofs.lemmas.Bool.{not-true, or_parts}
use Rattle.pmd_driver.specs.DeviceLock.Reported.{settings_through}
use Rattle.pmd_driver.specs.DeviceLock.declared.alone.Watched.{Watched}
use Rattle.pmd_driver.specs.DeviceLock.declared.entry.Entry.{Entry}
use Rattle.pmd_driver.specs.DeviceLock.declared.reported.Settings.{Settings}
use Rattle.pmd.specs.Before.{first_reported, holds_of, reported_after, reported_before, reported_after_entry, reported_through}
use Rattle.pmd.specs.Quiet.{NeverAskedOn, asks_on}
use Rattle.pmd.specs.declared.before.Reported.{Reported}
use Rattle.pmd.proofs.FirstOwn.{test_decides}

module _ (w : Watched) where
  -- No entry tries to enable the queue, starting from these settings.
  abbrev NoneAsks : Settings → List Entry → Type 0
  NoneAsks s h =
      (before : List Entry) (e : Entry) (following : List Entry) → before ++ e ∷ following ≡ h
      → IsFalse (asks_on w (settings_through w.vfs s before).mode e.event)

  -- If the report says so, no entry has tried before and none tries in the history.

  first_asks : (t : Reported) (h : List Entry) → (reported_through w t h).asked ≡ false → t.asked ≡ false
  first_asks t [] is = is
  first_asks t (e ∷ es) is = (or_parts t.asked _ (first_asks (reported_after w t e.event) es is)).0

  none_asks : (t : Reported) (h : List Entry) → (reported_through w t h).asked ≡ false → NoneAsks t.settings h
  none_asks t [] is [] e following both = cc
  none_asks t [] is (b ∷ before) e following both = cc
  none_asks t (f ∷ h) is [] e following both =
      let same : f ≡ e = cc in
      subst (λ (d : Entry). asks_on w t.settings.mode d.event ≡ false) same
      (or_parts t.asked _ (first_asks (reported_after w t f.event) h is)).1
  none_asks t (f ∷ h) is (b ∷ before) e following both =
      let same : f ≡ b = cc in
      let rest : before ++ e ∷ following ≡ h = cc in
      subst (λ (d : Entry). asks_on w (settings_through w.vfs t.settings (d ∷ before)).mode e.event ≡ false) same
      (none_asks (reported_after w t f.event) h is before e following rest)

  -- If no entry has tried before and none tries in the history, the report says so.
  none_asked : (t : Reported) (h : List Entry) → t.asked ≡ false → NoneAsks t.settings h
      → (reported_through w t h).asked ≡ false
  none_asked t [] is none = is
  none_asked t (e ∷ es) is none =
      let here : asks_on w t.settings.mode e.event ≡ false = none [] e es refl in
      none_asked (reported_after w t e.event) es (rw (is, here) refl) (λ before f following both.
      none (e ∷ before) f following (ap (λ (l : List Entry). e ∷ l) both))

pub never_decides : (w : Watched) (from : ℕ) (h : List Entry) (o : Option Reported) → o
    ≡ reported_before w first_reported from h
    → IsTrue (holds_of (λ t. not t.asked) o) ↔ NeverAskedOn w from h
never_decides w from h o reported =
    let decides = test_decides (reported_after_entry w) w (λ t. not t.asked) first_reported from h o reported in (
      λ is old long x. none_asks w first_reported x.before (not-true _ (decides.0 is old long x)),
      λ never.
          decides.1 (λ old long x. ap not (none_asked w first_reported x.before refl (never old long x))),
    )
