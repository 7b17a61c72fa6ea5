-- Lemmas: the test of a history decides whether the driver begins well.
use Rattle.std.proofs.Common.{◌≡◌, ℕ, true, List, [], ◌∷◌, Option, Some, None, refl, sym, ap, subst}
use Rattle.std.specs.Prelude.{◌↔◌, IsTrue}
use Rattle.std.proofs.lemmas.Bool.{and_parts, eq-eqb, eqb-true}
use Rattle.pmd_driver.specs.DeviceLock.Reported.{settings_through}
use Rattle.pmd_driver.specs.DeviceLock.declared.alone.Watched.{Watched}
use Rattle.pmd_driver.specs.DeviceLock.declared.entry.Entry.{Entry}
use Rattle.pmd_driver.specs.DeviceLock.declared.reported.Settings.{Settings}
use Rattle.pmd.specs.Before.{first_reported, holds_of, reported_after, reported_before, reported_after_entry, reported_through}
use Rattle.pmd.specs.Beginning.{BeginsWell, Fits, begins, is_queue}
use Rattle.pmd.specs.Queues.{queue_at}
use Rattle.pmd.specs.declared.before.Reported.{Reported}
use Rattle.pmd.specs.declared.beginning.Given.{Given}
use Rattle.pmd.proofs.FirstOwn.{test_decides}

-- The test `is_queue` is true if and only if the number identifies this queue.

named : (o : Option ℕ) (queue : ℕ) → is_queue o queue ≡ true → o ≡ Some queue
named None queue is = cc
named (Some n) queue is = ap (λ x. Some x) (eqb-true n queue is)

is_named : (o : Option ℕ) (queue : ℕ) → o ≡ Some queue → is_queue o queue ≡ true
is_named None queue is = cc
is_named (Some n) queue is = let same : n ≡ queue = cc in eq-eqb n queue same

fitting : (w : Watched) (s : Settings) (given : Given) → begins w s given ≡ true → Fits w s given
fitting w s given is =
    let parts = and_parts (is_queue (queue_at s.mode w.vfs given.port given.queue) w.queue) _ is in
    record { names = named _ w.queue parts.0; limit = eqb-true _ _ parts.1 }

is_fitting : (w : Watched) (s : Settings) (given : Given) → Fits w s given → begins w s given ≡ true
is_fitting w s given x = rw (is_named _ w.queue x.names) (eq-eqb _ _ x.limit)

-- The reported settings are those after all entries.

settings_reported : (w : Watched) (t : Reported) (h : List Entry)
    → (reported_through w t h).settings ≡ settings_through w.vfs t.settings h
settings_reported w t [] = refl
settings_reported w t (e ∷ es) = settings_reported w (reported_after w t e.event) es

pub begins_decides : (w : Watched) (from : ℕ) (given : Given) (h : List Entry) (o : Option Reported)
    → o ≡ reported_before w first_reported from h
    → IsTrue (holds_of (λ t. begins w t.settings given) o) ↔ BeginsWell w from given h
begins_decides w from given h o reported =
    let decides = test_decides (reported_after_entry w) w (λ t. begins w t.settings given) first_reported from h o
    reported in (
      λ is old long x.
          subst (λ (s : Settings). Fits w s given) (settings_reported w first_reported x.before)
          (fitting w _ given (decides.0 is old long x)),
      λ well.
          decides.1 (λ old long x.
          is_fitting w _ given (subst (λ (s : Settings). Fits w s given)
          (sym (settings_reported w first_reported x.before))
          (well old long x))),
    )
