-- The words of a text are its first word, then the words of the rest.
use Rattle.std.proofs.Common.{refl, sym, ap, subst, ◌∙◌, ◌≡◌, ℕ, ◌==◌, ◌||◌, not, Bool, true, false, List, [], ◌∷◌, length, take, drop, inl, inr, arith}
use Rattle.std.specs.List.{position_or_len}
use Rattle.std.proofs.lemmas.Bool.{cases_Bool, eqb-true}
use Rattle.std.proofs.lemmas.Bool.Decides.{nat_tests}
use Rattle.text_format.specs.Words.{is_blank, ends_word, words_between_blanks, words_of}
use Rattle.text_format.proofs.FirstWord.{drop_next, end_in, ends, filled, filled-some, parts-blank, parts-hash, parts_of, position-no, position-yes, take_next}

-- The text doesn't begin with a blank.
abbrev BeginsUnblank : (ℕ → Bool) → List ℕ → Type 0
BeginsUnblank blank [] = Unit {0}
BeginsUnblank blank (byte ∷ more) = blank byte ≡ false

-- If the text begins with a word end that isn't a blank, it has no words.
filled-none : (hash blank : ℕ → Bool) (text : List ℕ) → BeginsUnblank blank text
    → (length (take (end_in hash blank text) text) == 0) ≡ true → filled (parts_of hash blank text) ≡ []
filled-none hash blank [] begins empty = refl
filled-none hash blank (byte ∷ more) begins empty = elim (cases_Bool (hash byte)) [
  | inl hit ↦ ap filled (parts-hash hash blank byte more hit)
  | inr plain ↦
      let goes_on : ends hash blank byte ≡ false = ap (λ b. b || blank byte) plain ∙ begins in
      let next = position-no (ends hash blank) byte more goes_on in
      let front = ap (λ n. length (take n (byte ∷ more))) next
      ∙ ap length (take_next (end_in hash blank more) byte more) in
      absurd (omega (arith, eqb-true (length (take (end_in hash blank (byte ∷ more)) (byte ∷ more))) 0 empty, front))
]

abbrev front_of : (ℕ → Bool) → List ℕ → ℕ
front_of blank text = position_or_len (λ byte. not (blank byte)) text

drop-blank : (blank : ℕ → Bool) (byte : ℕ) (more : List ℕ) → blank byte ≡ true
    → drop (front_of blank (byte ∷ more)) (byte ∷ more) ≡ drop (front_of blank more) more
drop-blank blank byte more hit =
    ap (λ n. drop n (byte ∷ more)) (position-no (λ b. not (blank b)) byte more (ap not hit))
    ∙ drop_next (front_of blank more) byte more

drop-unblank : (blank : ℕ → Bool) (byte : ℕ) (more : List ℕ) → blank byte ≡ false
    → drop (front_of blank (byte ∷ more)) (byte ∷ more) ≡ byte ∷ more
drop-unblank blank byte more other =
    ap (λ n. drop n (byte ∷ more)) (position-yes (λ b. not (blank b)) byte more (ap not other))

-- Skipping the leading blanks doesn't change the words, and the text after the blanks doesn't begin with a blank.
abbrev After : (ℕ → Bool) → (ℕ → Bool) → List ℕ → Type 0
After hash blank text = BeginsUnblank blank (drop (front_of blank text) text)
    × (filled (parts_of hash blank text) ≡ filled (parts_of hash blank (drop (front_of blank text) text)))

after-blank : (hash blank : ℕ → Bool) (byte : ℕ) (more : List ℕ) → hash byte ≡ false → blank byte ≡ true
    → After hash blank more → After hash blank (byte ∷ more)
after-blank hash blank byte more plain hit (begins, same) =
    let after = drop-blank blank byte more hit in (
      subst (BeginsUnblank blank) (sym after) begins,
      ap filled (parts-blank hash blank byte more plain hit) ∙ same
          ∙ ap (λ text. filled (parts_of hash blank text)) (sym after),
    )

after-other : (hash blank : ℕ → Bool) (byte : ℕ) (more : List ℕ) → blank byte ≡ false
    → After hash blank (byte ∷ more)
after-other hash blank byte more other =
    let after = drop-unblank blank byte more other in (
      subst (BeginsUnblank blank) (sym after) other,
      ap (λ text. filled (parts_of hash blank text)) (sym after),
    )

after-blanks : (hash blank : ℕ → Bool) → ((byte : ℕ) → blank byte ≡ true → hash byte ≡ false) → (text : List ℕ)
    → After hash blank text
after-blanks hash blank apart [] = (tt, refl)
after-blanks hash blank apart (byte ∷ more) =
    let rest = after-blanks hash blank apart more in
    elim (cases_Bool (blank byte)) [
      | inl hit ↦ after-blank hash blank byte more (apart byte hit) hit rest
      | inr other ↦ after-other hash blank byte more other
    ]

abbrev is_hash : ℕ → Bool
is_hash byte = byte == 35

blank-apart : (byte : ℕ) → is_blank byte ≡ true → is_hash byte ≡ false
blank-apart byte blank = grind (arith, nat_tests)

-- If no byte precedes the first word end, the text has no words.
pub words-none : (text rest word : List ℕ) → rest ≡ drop (position_or_len (λ byte. not (is_blank byte)) text) text
    → word ≡ take (position_or_len ends_word rest) rest → (length word == 0) ≡ true → words_of text ≡ []
unfolding words_of words_between_blanks
words-none text rest word is_rest is_word empty =
    let (begins, same) = after-blanks is_hash is_blank blank-apart text in
    let starts : BeginsUnblank is_blank rest = subst (BeginsUnblank is_blank) (sym is_rest) begins in
    same ∙ ap (λ t. filled (parts_of is_hash is_blank t)) (sym is_rest)
    ∙ filled-none is_hash is_blank rest starts (ap (λ w. length w == 0) (sym is_word) ∙ empty)

-- The words of a text are its first word, then the words of the rest.
pub words-some : (text rest word after : List ℕ)
    → rest ≡ drop (position_or_len (λ byte. not (is_blank byte)) text) text
    → word ≡ take (position_or_len ends_word rest) rest → after ≡ drop (position_or_len ends_word rest) rest
    → (length word == 0) ≡ false → words_of text ≡ word ∷ words_of after
unfolding words_of words_between_blanks
words-some text rest word after is_rest is_word is_past long =
    let (begins, same) = after-blanks is_hash is_blank blank-apart text in
    same ∙ ap (λ t. filled (parts_of is_hash is_blank t)) (sym is_rest)
    ∙ filled-some is_hash is_blank rest (ap (λ w. length w == 0) (sym is_word) ∙ long)
    ∙ ap (λ w. w ∷ filled (parts_of is_hash is_blank (drop (position_or_len ends_word rest) rest))) (sym is_word)
    ∙ ap (λ b. word ∷ filled (parts_of is_hash is_blank b)) (sym is_past)
