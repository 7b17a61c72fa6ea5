-- Lemmas about the lines before the first line that ends a script.
use Rattle.std.proofs.Common.{◌≡◌, ◌+◌, ap, arith, refl, ◌∙◌, Bool, true, false, not, List, [], ◌∷◌, ℕ, suc, take, drop, Ok, Err}
use Rattle.std.specs.List.{after_first, before_first, list_any, prefix_len}
use Rattle.script_asm.specs.Prelude.{NumberedLine}
use Rattle.script_asm.specs.End.{has_end, is_end, lines_after}
use Rattle.script_asm.specs.Outline.{Outline}
use Rattle.script_asm.specs.Script.{with_line, with_lines}
use Rattle.script_asm.specs.declared.faults.ScriptFault.{ScriptFault}
use Rattle.script_asm.proofs.Lines.{with_lines-added, with_lines-ended, with_lines-stopped}

before-at : {X : Type 0} (p : X → Bool) (x : X) (xs : List X) → p x ≡ true → before_first p (x ∷ xs) ≡ []
before-at p x xs is = rw is refl

before-next : {X : Type 0} (p : X → Bool) (x : X) (xs : List X) → p x ≡ false
    → before_first p (x ∷ xs) ≡ x ∷ before_first p xs
before-next p x xs is = rw is (taken (prefix_len (λ y. not (p y)) xs))
  where
    taken : (n : ℕ) → take (1 + n) (x ∷ xs) ≡ x ∷ take n xs
    taken n = let next : 1 + n ≡ suc n = omega arith in rw next refl

after-next : {X : Type 0} (p : X → Bool) (x : X) (xs : List X) → p x ≡ false
    → after_first p (x ∷ xs) ≡ after_first p xs
after-next p x xs is = rw is (dropped (prefix_len (λ y. not (p y)) xs))
  where
    dropped : (n : ℕ) → drop (1 + n + 1) (x ∷ xs) ≡ drop (n + 1) xs
    dropped n = let next : 1 + n + 1 ≡ suc (n + 1) = omega arith in rw next refl

any-next : {X : Type 0} (p : X → Bool) (x : X) (xs : List X) → p x ≡ false → list_any p (x ∷ xs) ≡ list_any p xs
any-next p x xs is = rw is refl

module _ (end : List ℕ) (lines : List NumberedLine) where
  -- If no line remains, all lines before the end are read.
  pub before-none : (outline : Outline) → lines ≡ []
      → with_lines outline (before_first (is_end end) lines) ≡ Ok outline
  before-none outline none = with_lines-ended outline _ (ap (before_first (is_end end)) none)

  module _ (line : NumberedLine) (more : List NumberedLine) (first : lines ≡ line ∷ more) where
    -- If the next line ends the script, all lines before the end are read.
    pub before-ended : (outline : Outline) → is_end end line ≡ true
        → with_lines outline (before_first (is_end end) lines) ≡ Ok outline
    before-ended outline is =
        with_lines-ended outline _ (ap (before_first (is_end end)) first ∙ before-at (is_end end) line more is)

    -- Any other line belongs to the script.
    module _ (is : is_end end line ≡ false) (outline : Outline) where
      pub before-added : (after : Outline) → with_line outline line ≡ Ok after
          → with_lines outline (before_first (is_end end) lines) ≡ with_lines after (before_first (is_end end) more)
      before-added after says =
          with_lines-added outline after _ line _
          (ap (before_first (is_end end)) first ∙ before-next (is_end end) line more is) says

      pub before-stopped : (fault : ScriptFault) → with_line outline line ≡ Err fault
          → with_lines outline (before_first (is_end end) lines) ≡ Err fault
      before-stopped fault says =
          with_lines-stopped outline fault _ line _
          (ap (before_first (is_end end)) first ∙ before-next (is_end end) line more is) says

    pub past-next : is_end end line ≡ false → lines_after end lines ≡ lines_after end more
    past-next is = ap (after_first (is_end end)) first ∙ after-next (is_end end) line more is

    pub end-next : is_end end line ≡ false → has_end end lines ≡ has_end end more
    end-next is = ap (list_any (is_end end)) first ∙ any-next (is_end end) line more is
