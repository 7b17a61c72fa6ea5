-- Lemmas: the test of a history decides whether the frames accepted before the driver starts fit.
use Rattle.std.proofs.Common.{◌≡◌, ℕ, List, Option, nat_le}
use Rattle.std.specs.Prelude.{◌↔◌, IsTrue}
use Rattle.std.proofs.lemmas.Bool.{le-leb, leb-true}
use Rattle.pmd_driver.specs.DeviceLock.declared.alone.Watched.{Watched}
use Rattle.pmd_driver.specs.DeviceLock.declared.entry.Entry.{Entry}
use Rattle.pmd.specs.Before.{holds_of, known_before}
use Rattle.pmd.specs.Fitting.{FramesFit, longest_after, longest_let_in}
use Rattle.pmd.proofs.FirstOwn.{test_decides}

pub fit_decides : (w : Watched) (from most : ℕ) (h : List Entry) (o : Option ℕ)
    → o ≡ known_before longest_after w 0 from h
    → IsTrue (holds_of (λ longest. nat_le longest most) o) ↔ FramesFit w from most h
fit_decides w from most h o known =
    let decides = test_decides longest_after w (λ longest. nat_le longest most) 0 from h o known in (
      λ is old long x. leb-true (longest_let_in x.before) most (decides.0 is old long x),
      λ fit. decides.1 (λ old long x. le-leb (longest_let_in x.before) most (fit old long x)),
    )
