-- Lemmas about a walk through a history, entry by entry, up to the driver's first entry.
use Rattle.std.proofs.Common.{◌≡◌, ℕ, ◌+◌, ◌<◌, suc, true, false, List, ◌∷◌, length, get_or, drop, Some, None, refl, ap, ◌∙◌, arith, drop-cons}
use Rattle.std.proofs.Math.Seq.{drop-length}
use Rattle.pmd_driver.specs.DeviceLock.declared.alone.Watched.{Watched}
use Rattle.pmd_driver.specs.DeviceLock.declared.entry.Entry.{Entry}
use Rattle.pmd.specs.Before.{is_first, known_before, still_left}

split : (h : List Entry) (i : ℕ) (d : Entry) → i < length h → drop i h ≡ get_or h i d ∷ drop (i + 1) h
split h i d lt = let one : i + 1 ≡ suc i = omega arith in rw one (drop-cons h i d lt)

module _ {S : Type 0} (next : S → Entry → S) (w : Watched) (s : S) (left : ℕ) (h : List Entry) (i : ℕ) where
  module _ (e : Entry) (lt : i < length h) (there : get_or h i e ≡ e) where
    begins : drop i h ≡ e ∷ drop (i + 1) h
    begins = split h i e lt ∙ ap (λ (d : Entry). d ∷ drop (i + 1) h) there

    -- If the entry is the driver's first, what is known here is the result.
    pub known_here : is_first w left e ≡ true → known_before next w s left (drop i h) ≡ Some s
    known_here is = ap (known_before next w s left) begins ∙ rw is refl

    -- If the entry isn't the driver's first, the walk continues after it.
    pub known_there : is_first w left e ≡ false → (then : S) (following : ℕ) → then ≡ next s e
        → following ≡ still_left w left e
        → known_before next w s left (drop i h) ≡ known_before next w then following (drop (i + 1) h)
    known_there is then following moved fewer =
        ap (known_before next w s left) begins ∙ rw (is, moved, fewer) refl

  -- If the walk reaches the end of the history, there is no such entry.
  pub known_last : i ≡ length h → known_before next w s left (drop i h) ≡ None
  known_last is = ap (known_before next w s left) (ap (λ k. drop k h) is ∙ drop-length h)
