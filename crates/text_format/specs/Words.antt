-- The words of a line.
use Rattle.std.specs.Prelude.{ℕ, Bool, not, ◌||◌, List, length, filter, ◌==◌}
use Rattle.std.specs.List.{slice_split, before_first}

-- A space or a tab.
abbrev pub is_blank : ℕ → Bool
is_blank byte = byte == 32 || byte == 9

-- A byte that ends a word: a blank, or the `#` that starts a comment.
abbrev pub ends_word : ℕ → Bool
ends_word byte = byte == 35 || is_blank byte

-- The line without its comment, which starts at the first `#`.
abbrev pub before_comment : List ℕ → List ℕ
before_comment line = before_first (λ byte. byte == 35) line

-- The nonempty parts of a string between its blanks.
unfoldable pub words_between_blanks : List ℕ → List (List ℕ)
words_between_blanks text = filter (λ part. not (length part == 0)) (slice_split is_blank text)

-- The words of a line: the nonempty parts between blanks, before the first `#`.
unfoldable pub words_of : List ℕ → List (List ℕ)
words_of line = words_between_blanks (before_comment line)
