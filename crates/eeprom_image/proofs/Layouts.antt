-- Lemmas about words after other words and a section are written over some of them.
use Rattle.std.proofs.Common.{◌≡◌, ℕ, ◌+◌, ◌-◌, ◌*◌, ◌<◌, ◌≤◌, true, false, cond, nat_lt, nat_le, ◌==◌, ◌&&◌, List, [], ◌∷◌, ◌++◌, length, get_or, set, take, drop, fold, refl, sym, ap, ◌∙◌, inl, inr, arith, length-set, length-append, length-take, length-drop, get_or-set_same, get_or-set_other, get_or-drop, get_or-take}
use Rattle.std.specs.List.{flat_map}
use Rattle.std.proofs.lemmas.List.{get_or_append_left, get_or-append_right, length-take-le}
use Rattle.std.proofs.lemmas.Bool.{lt-ltb, le-ltb}
use Rattle.std.proofs.lemmas.Bool.Decides.{eqb_tells, leb_tells}
use Rattle.eeprom_image.specs.Bytes.{word_at}
use Rattle.eeprom_image.specs.Fault.{csr_section, triple_words, section_end}
use Rattle.eeprom_image.specs.Layout.{put_word, with_section}

-- The value of a word after some words are defined.
abbrev pub value_after : ℕ → ℕ → List (ℕ × ℕ) → ℕ
value_after index value given = fold (λ v g. cond (g.0 == index) g.1 v) value given

pub length-put_words : (words : List ℕ) (given : List (ℕ × ℕ)) → length (fold put_word words given) ≡ length words
length-put_words words [] = refl
length-put_words words (g ∷ given) = length-put_words (set words g.0 g.1) given ∙ length-set words g.0 g.1

word_at-put_word : (words : List ℕ) (g : ℕ × ℕ) (index : ℕ) → index < length words
    → word_at (set words g.0 g.1) index ≡ cond (g.0 == index) g.1 (word_at words index)
word_at-put_word words g index inside = elim (eqb_tells g.0 index) [
  | inl (t, same) ↦ rw t (ap (λ i. word_at (set words g.0 g.1) i) (sym same)
      ∙ get_or-set_same words g.0 g.1 65535 (omega arith))
  | inr (t, other) ↦ rw t (get_or-set_other words g.0 index g.1 65535 (λ e. other (sym e)))
]

pub word_at-put_words : (words : List ℕ) (given : List (ℕ × ℕ)) (index : ℕ) → index < length words
    → word_at (fold put_word words given) index ≡ value_after index (word_at words index) given
word_at-put_words words [] index inside = refl
word_at-put_words words (g ∷ given) index inside =
    word_at-put_words (set words g.0 g.1) given index (omega (arith, length-set words g.0 g.1))
    ∙ ap (λ v. fold (λ v g. cond (g.0 == index) g.1 v) v given) (word_at-put_word words g index inside)

pub length-with_section : (words section : List ℕ) → 64 + length section ≤ length words
    → length (with_section words section) ≡ length words
length-with_section words section fits = simp (length-append, length-take, length-drop) (omega arith)

pub word_at-with_section : (words section : List ℕ) (index : ℕ) → 64 + length section ≤ length words
    → index < length words
    → word_at (with_section words section) index
    ≡ cond (nat_le 64 index && nat_lt index (64 + length section)) (get_or section (index - 64) 65535)
    (word_at words index)
word_at-with_section words section index fits inside =
    let front = length-take-le 64 words (omega arith) in
    elim (leb_tells 64 index) [
      | inl (t, later) ↦ elim (leb_tells (64 + length section) index) [
        | inl (u, after) ↦
            let not_in : nat_lt index (64 + length section) ≡ false = le-ltb index (64 + length section) after in
            let place : 64 + length section + (index - 64 - length section) ≡ index = omega arith in
            rw (t, not_in) (get_or-append_right (take 64 words) (section ++ drop (64 + length section) words) 64 index
            65535 front later
            ∙ get_or-append_right section (drop (64 + length section) words) (length section) (index - 64) 65535 refl
            (omega arith)
            ∙ get_or-drop (64 + length section) words (index - 64 - length section) 65535
            ∙ ap (λ i. word_at words i) place)
        | inr (u, before) ↦
            let in_it : nat_lt index (64 + length section) ≡ true = lt-ltb index (64 + length section) before in
            rw (t, in_it) (get_or-append_right (take 64 words) (section ++ drop (64 + length section) words) 64 index
            65535 front later
            ∙ get_or_append_left section (drop (64 + length section) words) 65535 (index - 64) (omega arith))
      ]
      | inr (t, before) ↦ rw t (get_or_append_left (take 64 words) (section ++ drop (64 + length section) words) 65535
          index (omega arith)
          ∙ get_or-take 64 words index 65535 before)
    ]

pub length-flat_triples : (triples : List (ℕ × ℕ)) → length (flat_map triple_words triples) ≡ 3 * length triples
length-flat_triples [] = refl
length-flat_triples (triple ∷ triples) = let rest = length-flat_triples triples in omega arith

pub section_end-is : (triple : ℕ × ℕ) (triples : List (ℕ × ℕ))
    → section_end (triple ∷ triples) ≡ 64 + length (csr_section (triple ∷ triples))
section_end-is triple triples = omega (arith, length-flat_triples (triple ∷ triples))

pub no_section : (index : ℕ) → (nat_le 64 index && nat_lt index 64) ≡ false
no_section index = elim (leb_tells 64 index) [
  | inl (t, later) ↦ rw (t, le-ltb index 64 later) refl
  | inr (t, before) ↦ rw t refl
]

pub section_end-some : (triples : List (ℕ × ℕ)) → 0 < length triples
    → section_end triples ≡ 64 + length (csr_section triples)
section_end-some [] some = absurd (omega arith)
section_end-some (triple ∷ triples) some = section_end-is triple triples
