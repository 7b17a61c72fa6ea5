-- Lemmas about words of printable bytes, and about lines that consist of such words.
use Rattle.std.proofs.Common.{◌≡◌, refl, ◌∙◌, ap, ℕ, ◌-◌, ◌<◌, zero, suc, Bool, true, false, not, ◌&&◌, ◌==◌, nat_le, nat_lt, List, [], ◌∷◌, ◌++◌, length, get_or, take, arith}
use Rattle.std.specs.List.{All, AllByRecursion, list_all, slice_split, position_or_len}
use Rattle.std.specs.Str.Lines.{lines, lines_of_parts, strip_carriage_return}
use Rattle.std.proofs.Math.Seq.{take-length}
use Rattle.std.proofs.lemmas.List.Folds.{list_all-append}
use Rattle.std.proofs.lemmas.List.Splits.{slice_split_at, slice_split_none}
use Rattle.text_format.specs.Words.{is_blank, before_comment, words_between_blanks, words_of}
use Rattle.text_format.proofs.Parts.{HasFirst, slice_split-HasFirst}
use Rattle.script_asm.proofs.Prelude.{and_parts, nat_tests}

-- Whether a byte can be part of a word, and whether it can be part of a line.
abbrev pub is_plain : ℕ → Bool
is_plain byte = nat_lt 32 byte && not (byte == 35)

abbrev pub is_inline : ℕ → Bool
is_inline byte = nat_le 32 byte && not (byte == 35)

-- A word contains at least one byte, and only plain bytes.
pub record IsWord (word : List ℕ) : Type 0 where
  pub long : (length word == 0) ≡ false
  pub plain : list_all is_plain word ≡ true

cons_none : (p : ℕ → Bool) (c : ℕ) (cs : List ℕ) → p c ≡ false → All (λ b. p b ≡ false) cs → (k d : ℕ)
    → k < length (c ∷ cs) → p (get_or (c ∷ cs) k d) ≡ false
cons_none p c cs here more zero d below = here
cons_none p c cs here more (suc k) d below = more k d (omega arith)

pub all_none : (test p : ℕ → Bool) → ((b : ℕ) → test b ≡ true → p b ≡ false) → (xs : List ℕ) → list_all test xs ≡ true
    → All (λ b. p b ≡ false) xs
all_none test p h [] e = λ k d below. absurd (omega arith)
all_none test p h (c ∷ cs) e =
    let parts = and_parts (test c) (list_all test cs) e in
    cons_none p c cs (h c parts.0) (all_none test p h cs parts.1)

not_blank : (b : ℕ) → is_plain b ≡ true → is_blank b ≡ false
not_blank b e = grind (arith, nat_tests)

pub list_all-weaker : (test p : ℕ → Bool) → ((b : ℕ) → test b ≡ true → p b ≡ true) → (xs : List ℕ)
    → list_all test xs ≡ true → list_all p xs ≡ true
list_all-weaker test p h [] e = refl
list_all-weaker test p h (c ∷ cs) e =
    let parts = and_parts (test c) (list_all test cs) e in rw (h c parts.0, list_all-weaker test p h cs parts.1) refl

pub plain_inline : (b : ℕ) → is_plain b ≡ true → is_inline b ≡ true
plain_inline b e = grind (arith, nat_tests)

pub both_all : (test : ℕ → Bool) (xs ys : List ℕ) → list_all test xs ≡ true → list_all test ys ≡ true
    → list_all test (xs ++ ys) ≡ true
both_all test xs ys h k = list_all-append test xs ys ∙ rw (h, k) refl

-- The words joined by single spaces.
abbrev pub joined : List (List ℕ) → List ℕ
joined [] = []
joined (word ∷ []) = word
joined (word ∷ next ∷ more) = word ++ 32 ∷ joined (next ∷ more)

pub joined-inline : (words : List (List ℕ)) → AllByRecursion IsWord words → list_all is_inline (joined words) ≡ true
joined-inline [] all = refl
joined-inline (word ∷ []) all = list_all-weaker is_plain is_inline plain_inline word all.0.plain
joined-inline (word ∷ next ∷ more) all =
    both_all is_inline word (32 ∷ joined (next ∷ more))
    (list_all-weaker is_plain is_inline plain_inline word all.0.plain) (joined-inline (next ∷ more) all.1)

between-joined : (words : List (List ℕ)) → AllByRecursion IsWord words → words_between_blanks (joined words) ≡ words
unfolding words_between_blanks
between-joined [] all = refl
between-joined (word ∷ []) all =
    rw (slice_split_none is_blank word (all_none is_plain is_blank not_blank word all.0.plain), all.0.long) refl
between-joined (word ∷ next ∷ more) all =
    rw (
      slice_split_at is_blank word 32 (joined (next ∷ more)) (all_none is_plain is_blank not_blank word all.0.plain)
          refl,
      all.0.long,
    )
    (ap (λ words. word ∷ words) (between-joined (next ∷ more) all.1))

not_comment : (b : ℕ) → is_inline b ≡ true → (b == 35) ≡ false
not_comment b e = grind (arith, nat_tests)

comment_past : (line : List ℕ) → list_all is_inline line ≡ true → position_or_len (λ b. b == 35) line ≡ length line
comment_past [] e = refl
comment_past (c ∷ cs) e =
    let parts = and_parts (is_inline c) (list_all is_inline cs) e in
    let here = not_comment c parts.0 in
    let rest = comment_past cs parts.1 in
    rw here (omega (arith, rest))

no_comment : (line : List ℕ) → list_all is_inline line ≡ true → before_comment line ≡ line
no_comment line e = ap (λ n. take n line) (comment_past line e) ∙ take-length line

-- Joined words split into the same words.
pub words_of-joined : (words : List (List ℕ)) → AllByRecursion IsWord words → words_of (joined words) ≡ words
unfolding words_of
words_of-joined words all = ap words_between_blanks (no_comment (joined words) (joined-inline words all))
    ∙ between-joined words all

not_feed : (b : ℕ) → is_inline b ≡ true → (b == 10) ≡ false
not_feed b e = grind (arith, nat_tests)

not_return : (b : ℕ) → is_inline b ≡ true → (b == 13) ≡ false
not_return b e = grind (arith, nat_tests)

strip-inline : (line : List ℕ) → list_all is_inline line ≡ true → strip_carriage_return line ≡ line
strip-inline [] e = refl
strip-inline (c ∷ cs) e =
    rw (all_none is_inline (λ b. b == 13) not_return (c ∷ cs) e (length (c ∷ cs) - 1) 0 (omega arith)) refl

more_parts : (first : List ℕ) (parts : List (List ℕ)) → HasFirst parts
    → lines_of_parts (first ∷ parts) ≡ strip_carriage_return first ∷ lines_of_parts parts
more_parts first parts (second, more, is) = rw is refl

-- A text that starts with a line splits into that line and the lines of the remaining text.
pub lines-more : (line rest : List ℕ) → list_all is_inline line ≡ true → lines (line ++ 10 ∷ rest) ≡ line ∷ lines rest
lines-more line rest e =
    ap lines_of_parts (slice_split_at (λ b. b == 10) line 10 rest (all_none is_inline (λ b. b == 10) not_feed line e)
    refl)
    ∙ more_parts line (slice_split (λ b. b == 10) rest) (slice_split-HasFirst (λ b. b == 10) rest)
    ∙ ap (λ l. l ∷ lines rest) (strip-inline line e)
