-- Lemmas about words that are stored at places one after another.
use Rattle.std.proofs.Common.{◌≡◌, ◌≢◌, ℕ, ◌<◌, ◌≤◌, [], length, get_or, ap, sym, ◌∙◌, subst, inl, inr}
use Rattle.std.proofs.lemmas.Bool.{cases_eq, cases_lt}
use Rattle.register_file.specs.Words.{Words, word_at, put, row_words}
use Rattle.register_laws.specs.Prelude.{Place, RowId, number_of}
use Rattle.register_laws.proofs.Prelude.{get_or-set_other, get_or-set_same, get_or_past, length-set, same_number, set}

pub same_parts : (p q : Place) → p.row ≡ q.row → p.index ≡ q.index → p ≡ q
same_parts p q e f = λ k. record { row = e k; index = f k }

-- After a word is stored at a place, the place contains this word.
pub word_at-put_same : (words : Words) (p : Place) (v : ℕ) → number_of p.row < length words
    → p.index < length (row_words words p.row) → word_at (put words p v) p ≡ v
word_at-put_same words p v there inside =
    let row = row_words words p.row in
    ap (λ xs. get_or xs p.index 0) (get_or-set_same words (number_of p.row) (set row p.index v) [] there)
    ∙ get_or-set_same row p.index v 0 inside

pub row_words-put_other : (words : Words) (p : Place) (v : ℕ) (r : RowId) → number_of r ≢ number_of p.row
    → row_words (put words p v) r ≡ row_words words r
row_words-put_other words p v r n =
    get_or-set_other words (number_of p.row) (number_of r) (set (row_words words p.row) p.index v) [] n

-- Storing a word past the last row changes nothing.
row_words-put_past : (words : Words) (p : Place) (v : ℕ) → length words ≤ number_of p.row
    → row_words (put words p v) p.row ≡ row_words words p.row
row_words-put_past words p v past =
    let longer = length-set words (number_of p.row) (set (row_words words p.row) p.index v) in
    get_or_past (put words p v) (number_of p.row) [] (subst (λ n. n ≤ number_of p.row) (sym longer) past)
    ∙ sym (get_or_past words (number_of p.row) [] past)

-- Storing a word at a place changes no other word.
pub word_at-put_other : (words : Words) (p q : Place) (v : ℕ) → q ≢ p → word_at (put words p v) q ≡ word_at words q
word_at-put_other words p q v n =
    elim (cases_eq (number_of q.row) (number_of p.row)) as (λ _. word_at (put words p v) q ≡ word_at words q) [
      | inr other ↦ ap (λ xs. get_or xs q.index 0) (row_words-put_other words p v q.row other)
      | inl e ↦
          let same : q.row ≡ p.row = same_number q.row p.row e in
          let apart : q.index ≢ p.index = λ i. n (same_parts q p same i) in
          let there = sym (ap (λ m. get_or (get_or words m []) q.index 0) e) in
          ap (λ m. get_or (get_or (put words p v) m []) q.index 0) e
          ∙ elim (cases_lt (number_of p.row) (length words)) as
          (λ _. get_or (row_words (put words p v) p.row) q.index 0 ≡ word_at words q) [
            | inl b ↦ ap (λ xs. get_or xs q.index 0) (get_or-set_same words (number_of p.row)
                (set (row_words words p.row) p.index v) [] b)
                ∙ get_or-set_other (row_words words p.row) p.index q.index v 0 apart ∙ there
            | inr past ↦ ap (λ xs. get_or xs q.index 0) (row_words-put_past words p v past) ∙ there
          ]
    ]

-- After a word is stored at a place, the place contains this word, or the place doesn't exist and nothing has changed.
pub put_cases : (words : Words) (p : Place) (v : ℕ) (P : ℕ → Type 0) → P v → P (word_at words p)
    → P (word_at (put words p v) p)
put_cases words p v P new old =
    let row = row_words words p.row in
    elim (cases_lt (number_of p.row) (length words)) as (λ _. P (word_at (put words p v) p)) [
      | inr past ↦ subst P (sym (ap (λ xs. get_or xs p.index 0) (row_words-put_past words p v past))) old
      | inl there ↦ elim (cases_lt p.index (length row)) as (λ _. P (word_at (put words p v) p)) [
        | inl inside ↦ subst P (sym (word_at-put_same words p v there inside)) new
        | inr out ↦
            let here = get_or-set_same words (number_of p.row) (set row p.index v) [] there in
            let none = get_or_past (set row p.index v) p.index 0
            (subst (λ n. n ≤ p.index) (sym (length-set row p.index v)) out) in
            subst P (sym (ap (λ xs. get_or xs p.index 0) here ∙ none ∙ sym (get_or_past row p.index 0 out))) old
      ]
    ]

-- Storing a word doesn't change the length of any row.
pub length-row_words-put : (words : Words) (p : Place) (v : ℕ) (r : RowId)
    → length (row_words (put words p v) r) ≡ length (row_words words r)
length-row_words-put words p v r =
    elim (cases_eq (number_of r) (number_of p.row)) as (λ _. length (row_words (put words p v) r) ≡ length
    (row_words words r)) [
      | inr other ↦ ap length (row_words-put_other words p v r other)
      | inl e ↦
          let same = sym (ap (λ x. length (row_words words x)) (same_number r p.row e)) in
          ap (λ m. length (get_or (put words p v) m [])) e
          ∙ elim (cases_lt (number_of p.row) (length words)) as
          (λ _. length (row_words (put words p v) p.row) ≡ length (row_words words r)) [
            | inl b ↦ ap length (get_or-set_same words (number_of p.row) (set (row_words words p.row) p.index v) [] b)
                ∙ length-set (row_words words p.row) p.index v ∙ same
            | inr past ↦ ap length (row_words-put_past words p v past) ∙ same
          ]
    ]
