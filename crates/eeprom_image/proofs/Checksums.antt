-- Setting the checksum changes only word 0x3F, which is in no section.
use Rattle.std.proofs.Common.{◌≡◌, ℕ, ◌+◌, ◌<◌, Bool, true, false, nat_lt, nat_le, ◌||◌, List, [], ◌∷◌, length, set, take, map, sum, sum_by, refl, sym, ap, ◌∙◌, arith, get_or-set_other}
use Rattle.std.specs.List.{list_all}
use Rattle.std.proofs.lemmas.List.{take_more, take_more_set, drop-set-lt}
use Rattle.std.proofs.lemmas.List.Sums.{sum_by-append, sum_by-cons}
use Rattle.std.proofs.lemmas.Bool.{and_parts}
use borrow.Author.Tests.{leb-true, ltb-true}
use Rattle.eeprom_image.specs.Bytes.{word_at}
use Rattle.eeprom_image.specs.Section.{is_unused, section_at, pointers}
use Rattle.eeprom_image.specs.Checksum.{checked_sum}
use Rattle.eeprom_image.specs.Text.{is_past}

-- Two functions that agree below 15 have the same values at any list of indices below 15.
pub map_same : (f g : ℕ → ℕ) (indexes : List ℕ) → ((index : ℕ) → index < 15 → f index ≡ g index)
    → list_all (λ index. nat_lt index 15) indexes ≡ true → map f indexes ≡ map g indexes
map_same f g [] same low = refl
map_same f g (index ∷ indexes) same low =
    let both = and_parts (nat_lt index 15) (list_all (λ index. nat_lt index 15) indexes) low in
    let here = same index (ltb-true index 15 both.0) in
    let rest = map_same f g indexes same both.1 in
    cc

pub pointers-set : (words : List ℕ) (value : ℕ) → pointers (set words 63 value) ≡ pointers words
unfolding pointers
pointers-set words value =
    map_same (word_at (set words 63 value)) (word_at words) (3 ∷ 4 ∷ 5 ∷ 6 ∷ 7 ∷ 8 ∷ 9 ∷ 10 ∷ 11 ∷ 12 ∷ 13 ∷ 14 ∷ [])
    (λ index low. get_or-set_other words 63 index value 65535 (omega arith)) refl

section_cases : (words : List ℕ) (value pointer : ℕ) (unused : Bool) → is_unused pointer ≡ unused
    → (unused || nat_le 64 pointer) ≡ true
    → section_at (set words 63 value) pointer ≡ section_at words pointer
section_cases words value pointer true is after = rw is refl
section_cases words value pointer false is after =
    let far = leb-true 64 pointer after in
    let first = get_or-set_other words 63 pointer value 65535 (omega arith) in
    let rest = drop-set-lt (pointer + 1) words 63 value (omega arith) in
    rw (first, rest) refl

pub section_at-set : (words : List ℕ) (value pointer : ℕ) → is_past pointer ≡ true
    → section_at (set words 63 value) pointer ≡ section_at words pointer
section_at-set words value pointer after = section_cases words value pointer (is_unused pointer) refl after

sections_sum-set : (words : List ℕ) (value : ℕ) (ps : List ℕ) → list_all is_past ps ≡ true
    → sum_by (λ pointer. sum (section_at (set words 63 value) pointer)) ps
    ≡ sum_by (λ pointer. sum (section_at words pointer)) ps
sections_sum-set words value [] after = refl
sections_sum-set words value (p ∷ ps) after =
    let both = and_parts (is_past p) (list_all is_past ps) after in
    let old = λ (pointer : ℕ). sum (section_at words pointer) in
    let new = λ (pointer : ℕ). sum (section_at (set words 63 value) pointer) in
    let here = ap sum (section_at-set words value p both.0) in
    let rest = sections_sum-set words value ps both.1 in
    sum_by-cons new p ps ∙ ap (λ n. n + sum_by new ps) here ∙ ap (λ n. old p + n) rest ∙ sym (sum_by-cons old p ps)

pub checked_sum-set : (words : List ℕ) (value : ℕ) → 63 < length words → list_all is_past (pointers words) ≡ true
    → checked_sum (set words 63 value) + word_at words 63 ≡ checked_sum words + value
checked_sum-set words value long after =
    let new : sum (take 64 (set words 63 value)) ≡ sum (take 63 words) + (0 + value) =
    ap sum (take_more_set words 63 value long) ∙ sum_by-append (λ x. x) (take 63 words) (value ∷ []) in
    let old : sum (take 64 words) ≡ sum (take 63 words) + (0 + word_at words 63) =
    ap sum (take_more words 63 65535 long) ∙ sum_by-append (λ x. x) (take 63 words) (word_at words 63 ∷ []) in
    let moved : sum_by (λ pointer. sum (section_at (set words 63 value) pointer)) (pointers (set words 63 value))
    ≡ sum_by (λ pointer. sum (section_at words pointer)) (pointers words) =
    ap (λ ps. sum_by (λ pointer. sum (section_at (set words 63 value) pointer)) ps) (pointers-set words value)
    ∙ sections_sum-set words value (pointers words) after in
    omega arith
