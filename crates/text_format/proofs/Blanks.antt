-- Lemmas about where leading blanks and words end in a text.
use Rattle.std.proofs.Common.{refl, sym, subst, ◌≡◌, ℕ, zero, suc, ◌+◌, ◌<◌, not, Bool, true, false, List, length, get_or, Some, None, inl, inr, arith}
use Rattle.std.specs.List.{position, position_or_len, prefix_len}
use Rattle.std.specs.Str.{IsUtf8, IsCharBoundary}
use Rattle.std.proofs.lemmas.Bool.{lt-ltb, cases_lt}
use Rattle.std.proofs.lemmas.Bool.Decides.{nat_tests}
use Rattle.std.proofs.lemmas.List.Sums.{prefix_len-le-length, prefix_len_passes, passes_at_first}
use Rattle.std.proofs.lemmas.Str.{IsCharBoundary-start, IsCharBoundary-end, IsCharBoundary-before_ascii, IsCharBoundary-after_ascii}
use Rattle.text_format.specs.Words.{is_blank, ends_word}
use borrow.Author.Tests.{le-ltb}

-- The index that `position` returns.
pub position-at : (test : ℕ → Bool) (text : List ℕ) (i : ℕ) → position test text ≡ Some i
    → i ≡ position_or_len test text
position-at test text i found = elim (cases_lt (position_or_len test text) (length text)) [
  | inl below ↦ let is = rw (lt-ltb (position_or_len test text) (length text) below) at found in cc
  | inr above ↦ let is = rw (le-ltb (position_or_len test text) (length text) above) at found in cc
]

pub position-none : (test : ℕ → Bool) (text : List ℕ) → position test text ≡ None
    → length text ≡ position_or_len test text
position-none test text none = elim (cases_lt (position_or_len test text) (length text)) [
  | inl below ↦ let is = rw (lt-ltb (position_or_len test text) (length text) below) at none in cc
  | inr above ↦ omega (arith, prefix_len-le-length (λ byte. not (test byte)) text)
]

is_blank-ascii : (byte : ℕ) → is_blank byte ≡ true → byte < 128
is_blank-ascii byte blank = grind (arith, nat_tests)

ends_word-ascii : (byte : ℕ) → ends_word byte ≡ true → byte < 128
ends_word-ascii byte end = grind (arith, nat_tests)

-- If only ASCII bytes pass the test, the index after the leading passing bytes is a character boundary.
after : (test : ℕ → Bool) → ((byte : ℕ) → test byte ≡ true → byte < 128) → (text : List ℕ) (n : ℕ)
    → n ≡ prefix_len test text → IsUtf8 text → IsCharBoundary text n
after test ascii text zero is utf8 = IsCharBoundary-start text utf8
after test ascii text (suc k) is utf8 =
    let inside : k < prefix_len test text = omega arith in
    let below : k < length text = omega (arith, prefix_len-le-length test text) in
    let next : k + 1 ≡ suc k = omega arith in
    subst (IsCharBoundary text) next
    (IsCharBoundary-after_ascii text k utf8 below (ascii (get_or text k 0) (prefix_len_passes test text k 0 inside)))

not_not : (b : Bool) → not (not b) ≡ true → b ≡ true
not_not true h = refl
not_not false h = cc

-- The index after the leading blanks is a character boundary.
pub IsCharBoundary-after_blanks : (text : List ℕ) (n : ℕ) → n ≡ position_or_len (λ byte. not (is_blank byte)) text
    → IsUtf8 text → IsCharBoundary text n
IsCharBoundary-after_blanks text n is utf8 = after (λ byte. not (not (is_blank byte)))
    (λ byte blank. is_blank-ascii byte (not_not (is_blank byte) blank)) text n is utf8

-- The end of a word is a character boundary.
pub IsCharBoundary-end_of_word : (text : List ℕ) (n : ℕ) → n ≡ position_or_len ends_word text → IsCharBoundary text n
IsCharBoundary-end_of_word text n is = subst (IsCharBoundary text) (sym is)
    (elim (cases_lt (position_or_len ends_word text) (length text)) [
      | inl below ↦ IsCharBoundary-before_ascii text (position_or_len ends_word text) below
          (ends_word-ascii (get_or text (position_or_len ends_word text) 0) (passes_at_first ends_word text 0 below))
      | inr above ↦
          let last : length text ≡ position_or_len ends_word text =
          omega (arith, prefix_len-le-length (λ byte. not (ends_word byte)) text) in
          subst (IsCharBoundary text) last (IsCharBoundary-end text)
    ])
