-- The pointers of laid-out words are valid if each points after the checksum and to a section inside the image.
use Rattle.std.proofs.Common.{◌≡◌, ◌≢◌, ℕ, ◌+◌, ◌<◌, ◌≤◌, Bool, true, false, nat_lt, nat_le, ◌||◌, ◌&&◌, List, [], ◌∷◌, length, map, refl, sym, ap, ◌∙◌, inl, inr, arith}
use Rattle.std.specs.List.{list_all}
use Rattle.std.proofs.lemmas.Bool.{cases_lt, le-ltb}
use Rattle.std.proofs.lemmas.Bool.Decides.{leb_tells}
use Rattle.eeprom_image.specs.Bytes.{word_at}
use Rattle.eeprom_image.specs.Section.{is_unused, word_count, is_inside, pointers}
use Rattle.eeprom_image.specs.Image.{are_inside}
use Rattle.eeprom_image.specs.Content.{Content}
use Rattle.eeprom_image.specs.Fault.{plain_word, is_right_pointer, points_inside}
use Rattle.eeprom_image.specs.Text.{is_past}
use Rattle.eeprom_image.proofs.Checksums.{map_same}

and_swap : (a b c d : Bool) → ((a && b) && (c && d)) ≡ ((a && c) && (b && d))
and_swap true true c d = refl
and_swap true false true d = refl
and_swap true false false d = refl
and_swap false b c d = refl

list_all-and : (a b : ℕ → Bool) (ps : List ℕ) → list_all (λ p. a p && b p) ps ≡ (list_all a ps && list_all b ps)
list_all-and a b [] = refl
list_all-and a b (p ∷ ps) = ap (λ t. (a p && b p) && t) (list_all-and a b ps)
    ∙ and_swap (a p) (b p) (list_all a ps) (list_all b ps)

list_all-same : (f g : ℕ → Bool) (ps : List ℕ) → ((p : ℕ) → f p ≡ g p) → list_all f ps ≡ list_all g ps
list_all-same f g [] same = refl
list_all-same f g (p ∷ ps) same = ap (λ t. t && list_all f ps) (same p) ∙ ap (λ t. g p && t) (list_all-same f g ps same)

-- The pointers in the words that content defines.
plain_pointers : Content → List ℕ
plain_pointers content = map (plain_word content) (3 ∷ 4 ∷ 5 ∷ 6 ∷ 7 ∷ 8 ∷ 9 ∷ 10 ∷ 11 ∷ 12 ∷ 13 ∷ 14 ∷ [])

points_inside-plain : (content : Content)
    → points_inside content ≡ list_all (is_right_pointer content) (plain_pointers content)
unfolding points_inside plain_pointers
points_inside-plain content = refl

pointers-plain : (content : Content) (words : List ℕ)
    → ((index : ℕ) → index < 15 → word_at words index ≡ plain_word content index)
    → pointers words ≡ plain_pointers content
unfolding pointers plain_pointers
pointers-plain content words same =
    map_same (word_at words) (plain_word content) (3 ∷ 4 ∷ 5 ∷ 6 ∷ 7 ∷ 8 ∷ 9 ∷ 10 ∷ 11 ∷ 12 ∷ 13 ∷ 14 ∷ []) same refl

right_pointer : (p x y size long : ℕ) → (p < size → 64 ≤ p → y ≡ x) → long ≡ size → (unused : Bool)
    → is_unused p ≡ unused
    → (is_unused p || (nat_le 64 p && nat_lt (p + word_count x) size))
    ≡ ((is_unused p || nat_le 64 p) && (is_unused p || nat_lt (p + word_count y) long))
right_pointer p x y size long same whole true is = rw is refl
right_pointer p x y size long same whole false is = rw is (elim (leb_tells 64 p) [
  | inr (t, before) ↦ rw t refl
  | inl (t, after) ↦ elim (cases_lt p size) [
    | inl inside ↦ rw (t, same inside after, whole) refl
    | inr outside ↦
        let left = le-ltb (p + word_count x) size (omega arith) in
        let right = le-ltb (p + word_count y) long (omega arith) in
        rw (t, left, right) refl
  ]
])

module _ (content : Content) (words : List ℕ) (size : length words ≡ content.size) (same : (index : ℕ)
    → index < content.size → index ≢ 63 → word_at words index ≡ plain_word content index) where
  right_pointer-is : (p : ℕ) → is_right_pointer content p ≡ (is_past p && is_inside words p)
  right_pointer-is p = right_pointer p (plain_word content p) (word_at words p) content.size (length words)
      (λ inside after. same p inside (omega arith)) size (is_unused p) refl

  pub points_inside-is : 64 ≤ content.size
      → points_inside content ≡ (list_all is_past (pointers words) && are_inside words)
  points_inside-is long =
      let ps = plain_pointers content in
      let at : pointers words ≡ plain_pointers content =
      pointers-plain content words (λ index low. same index (omega arith) (omega arith)) in
      points_inside-plain content
      ∙ list_all-same (is_right_pointer content) (λ p. is_past p && is_inside words p) ps right_pointer-is
      ∙ list_all-and is_past (is_inside words) ps
      ∙ ap (λ ps. list_all is_past ps && list_all (is_inside words) ps) (sym at)
