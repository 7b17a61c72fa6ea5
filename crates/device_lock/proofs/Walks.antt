-- Lemmas for loops over a history's entries and over the blocks in a range.
use Rattle.std.proofs.Common.{◌≡◌, ℕ, zero, suc, ◌+◌, ◌-◌, ◌<◌, Bool, true, false, not, ◌&&◌, ◌||◌, List, ◌∷◌, length, get_or, drop, replicate, refl, sym, ap, ◌∙◌, arith, drop-cons}
use Rattle.std.proofs.Math.Bool.{or_assoc, or-false}
use Rattle.std.proofs.Math.Seq.{drop-length}
use Rattle.std.specs.Prelude.{◌==◌}
use Rattle.nic_device.specs.VfMap.declared.mode.Mode.{Mode}
use Rattle.device_lock.specs.declared.alone.Watched.{Watched}
use Rattle.device_lock.specs.declared.entry.Entry.{Entry}
use Rattle.device_lock.specs.Alone.{Blocks, lent_in, lent_by, mode_after}
use Rattle.device_lock.specs.Watching.{marked, none_of, leaves_alone, rest_leaves_alone}

-- One step of the loop over a range of blocks.

next_none : (mine : Blocks) (n m : ℕ) → none_of mine n (suc m) ≡ (not (mine n) && none_of mine (n + 1) m)
unfolding none_of
next_none mine n m = refl

pub none_here : (mine : Blocks) (n k c : ℕ) → k < c → mine (n + k) ≡ true → none_of mine (n + k) (c - k) ≡ false
none_here mine n k c lt is =
    let more : c - k ≡ suc (c - (k + 1)) = omega arith in
    rw more (next_none mine (n + k) (c - (k + 1)) ∙ ap (λ b. not b && none_of mine (n + k + 1) (c - (k + 1))) is)

pub none_there : (mine : Blocks) (n k c : ℕ) → k < c → mine (n + k) ≡ false
    → none_of mine (n + k) (c - k) ≡ none_of mine (n + (k + 1)) (c - (k + 1))
none_there mine n k c lt is =
    let more : c - k ≡ suc (c - (k + 1)) = omega arith in
    let one : n + k + 1 ≡ n + (k + 1) = omega arith in
    rw more
    (next_none mine (n + k) (c - (k + 1)) ∙ ap (λ b. not b && none_of mine (n + k + 1) (c - (k + 1))) is
    ∙ ap (λ m. none_of mine m (c - (k + 1))) one)

pub none_left : (mine : Blocks) (n c : ℕ) → none_of mine n (c - c) ≡ true
unfolding none_of
none_left mine n c = let none : c - c ≡ 0 = omega arith in rw none refl

pub none_first : (mine : Blocks) (n c : ℕ) → none_of mine n c ≡ none_of mine (n + 0) (c - 0)
none_first mine n c =
    let same : n + 0 ≡ n = omega arith in
    let all : c - 0 ≡ c = omega arith in rw (same, all) refl

-- The loop that collects the lent blocks.

pub none_marked : (count number : ℕ) → marked (replicate count false) number ≡ false
none_marked zero number = refl
none_marked (suc count) zero = refl
none_marked (suc count) (suc number) = none_marked count number

pub split : (h : List Entry) (i : ℕ) (d : Entry) → i < length h → drop i h ≡ get_or h i d ∷ drop (i + 1) h
split h i d lt = let one : i + 1 ≡ suc i = omega arith in rw one (drop-cons h i d lt)

pub lent_next : (pass : ℕ) (h : List Entry) (i : ℕ) (d : Entry) (a b : Bool) (number : ℕ) → i < length h
    → b ≡ (a || lent_in pass (get_or h i d) number)
    → (b || lent_by pass (drop (i + 1) h) number) ≡ (a || lent_by pass (drop i h) number)
lent_next pass h i d a b number lt is =
    ap (λ x. x || lent_by pass (drop (i + 1) h) number) is
    ∙ or_assoc a (lent_in pass (get_or h i d) number) (lent_by pass (drop (i + 1) h) number)
    ∙ ap (λ (rest : List Entry). a || lent_by pass rest number) (sym (split h i d lt))

pub lent_last : (pass : ℕ) (h : List Entry) (i : ℕ) (a : Bool) (number : ℕ) → i ≡ length h
    → (a || lent_by pass (drop i h) number) ≡ a
lent_last pass h i a number is =
    ap (λ (rest : List Entry). a || lent_by pass rest number) (ap (λ k. drop k h) is ∙ drop-length h) ∙ or-false a

-- One step of the loop over the entries.

module _ (w : Watched) (mine : Blocks) (mode : Mode) (begun : Bool) (h : List Entry) (i : ℕ) (e : Entry)
    (lt : i < length h) (is : get_or h i e ≡ e) where
  rest_next : rest_leaves_alone w mine mode begun (drop i h)
      ≡ ((not begun || leaves_alone w mine mode e)
      && rest_leaves_alone w mine (mode_after w.vfs mode e.event) (begun || (e.pass == w.pass)) (drop (i + 1) h))
  rest_next =
      ap (λ (rest : List Entry). rest_leaves_alone w mine mode begun rest)
      (split h i e lt ∙ ap (λ (x : Entry). x ∷ drop (i + 1) h) is)

  -- If the entry doesn't leave the queue alone, neither do the remaining entries, taken together.
  pub rest_here : (not begun || leaves_alone w mine mode e) ≡ false
      → rest_leaves_alone w mine mode begun (drop i h) ≡ false
  rest_here no_more =
      rest_next
      ∙ ap (λ b. b && rest_leaves_alone w mine (mode_after w.vfs mode e.event) (begun || (e.pass == w.pass))
      (drop (i + 1) h)) no_more

  -- If the entry leaves the queue alone, the later entries decide.
  pub rest_there : (not begun || leaves_alone w mine mode e) ≡ true → (after : Mode) (started : Bool)
      → after ≡ mode_after w.vfs mode e.event → started ≡ (begun || (e.pass == w.pass))
      → rest_leaves_alone w mine mode begun (drop i h) ≡ rest_leaves_alone w mine after started (drop (i + 1) h)
  rest_there passes after started next has =
      rest_next
      ∙ ap (λ b. b && rest_leaves_alone w mine (mode_after w.vfs mode e.event) (begun || (e.pass == w.pass))
      (drop (i + 1) h)) passes
      ∙ rw (next, has) refl

pub rest_last : (w : Watched) (mine : Blocks) (mode : Mode) (begun : Bool) (h : List Entry) (i : ℕ) → i ≡ length h
    → rest_leaves_alone w mine mode begun (drop i h) ≡ true
rest_last w mine mode begun h i is =
    ap (λ (rest : List Entry). rest_leaves_alone w mine mode begun rest) (ap (λ k. drop k h) is ∙ drop-length h)
