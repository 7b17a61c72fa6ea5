-- Lemmas about the first line of a text.
use Rattle.std.proofs.Common.{refl, sym, ◌∙◌, ap, ◌≡◌, ◌≢◌, ℕ, ◌<◌, ◌-◌, ◌+◌, ◌==◌, false, List, [], ◌∷◌, ◌++◌, length, get_or, take, arith, inl, inr}
use Rattle.std.specs.List.{position_or_len, before_first, after_first, slice_split}
use Rattle.std.specs.Str.Lines.{lines, lines_of_parts, strip_carriage_return}
use Rattle.std.proofs.Math.Seq.{take-length}
use Rattle.std.proofs.lemmas.Bool.Decides.{eqb_tells}
use Rattle.std.proofs.lemmas.List.{take_more}
use Rattle.std.proofs.lemmas.List.Splits.{slice_split_first}
use Rattle.text_format.proofs.Parts.{HasFirst, slice_split-whole, slice_split-HasFirst}

-- A nonempty line whose last byte is a carriage return is some text followed by a carriage return.
ended : (byte : ℕ) (line : List ℕ) → get_or (byte ∷ line) (length (byte ∷ line) - 1) 0 ≡ 13
    → byte ∷ line ≡ take (length (byte ∷ line) - 1) (byte ∷ line) ++ 13 ∷ []
ended byte line last =
    let whole : (n : ℕ) → n ≡ length (byte ∷ line) - 1
    → byte ∷ line ≡ take n (byte ∷ line) ++ get_or (byte ∷ line) n 0 ∷ [] = λ n is.
    let inside : n < length (byte ∷ line) = omega arith in
    let all : n + 1 ≡ length (byte ∷ line) = omega arith in
    sym (take-length (byte ∷ line)) ∙ ap (λ k. take k (byte ∷ line)) (sym all) ∙ take_more (byte ∷ line) n 0 inside in
    whole (length (byte ∷ line) - 1) refl ∙ ap (λ b. take (length (byte ∷ line) - 1) (byte ∷ line) ++ b ∷ []) last

pub strip_carriage_return-none : (line : List ℕ) → ((front : List ℕ) → line ≢ front ++ 13 ∷ [])
    → line ≡ strip_carriage_return line
strip_carriage_return-none [] other = refl
strip_carriage_return-none (byte ∷ line) other =
    elim (eqb_tells (get_or (byte ∷ line) (length (byte ∷ line) - 1) 0) 13) [
      | inl (test, is) ↦ absurd (other _ (ended byte line is))
      | inr (test, is) ↦ rw test refl
    ]

more_parts : (first : List ℕ) (parts : List (List ℕ)) → HasFirst parts
    → lines_of_parts (first ∷ parts) ≡ strip_carriage_return first ∷ lines_of_parts parts
more_parts first parts (second, more, is) = rw is refl

-- The text before the first line feed is the first line.
pub lines-first : (text before after : List ℕ) → position_or_len (λ b. b == 10) text < length text
    → before ≡ before_first (λ b. b == 10) text → after ≡ after_first (λ b. b == 10) text
    → lines text ≡ strip_carriage_return before ∷ lines after
lines-first text before after ends first rest =
    ap lines_of_parts (slice_split_first (λ b. b == 10) text 0 ends)
    ∙ more_parts (before_first (λ b. b == 10) text) (slice_split (λ b. b == 10) (after_first (λ b. b == 10) text))
    (slice_split-HasFirst (λ b. b == 10) (after_first (λ b. b == 10) text))
    ∙ rw (← first, ← rest) refl

-- A nonempty text without a line feed is a single line.
pub lines-last : (text : List ℕ) → position_or_len (λ b. b == 10) text ≡ length text → (length text == 0) ≡ false
    → lines text ≡ text ∷ lines []
lines-last text none long = ap lines_of_parts (slice_split-whole (λ b. b == 10) text none) ∙ rw long refl
