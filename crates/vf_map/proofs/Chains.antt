-- Lemmas about finding an offset in a list of entries that consists of parts.
use Rattle.std.proofs.Common.{◌≡◌, ◌≢◌, ℕ, zero, suc, ◌+◌, ◌<◌, ◌≤◌, true, ◌==◌, nat_lt, List, [], ◌∷◌, ◌++◌, map, find, Some, None, refl, ap, sym, ◌∙◌, inl, inr, arith}
use Rattle.std.specs.List.{flat_map, range_with_len, list_all}
use Rattle.std.proofs.lemmas.Bool.{cases_Bool, cond-true, cond-false, eqb-true, eq-eqb, and_parts, ltb-true, false_from_ne_true, both_ways}
use Rattle.reg_table.specs.declared.place.Place.{Place}
use Rattle.reg_table.specs.declared.rows.RowId.{RowId}
use Rattle.vf_map.specs.Map.{Entry, found, distance, side_entries}
use Rattle.vf_map.specs.Parts.{place_at, row_after, of_queue}
use Rattle.vf_map.proofs.LocatedAt.{located_at}

-- If the first part has the offset, searching the list finds the first part's place.
pub in_first : (es fs : List Entry) (o : ℕ) (a : Place) → place_at es o ≡ Some a → place_at (es ++ fs) o ≡ Some a
in_first [] fs o a e = cc
in_first (x ∷ es) fs o a e =
    elim (cases_Bool (x.0 == o)) [
      | inl t ↦ cond-true (x.0 == o) _ _ t ∙ sym (cond-true (x.0 == o) _ _ t) ∙ e
      | inr f ↦ cond-false (x.0 == o) _ _ f ∙ in_first es fs o a (sym (cond-false (x.0 == o) _ _ f) ∙ e)
    ]

-- If the first part doesn't have the offset, searching the list gives the same result as searching the second part.
pub in_second : (es fs : List Entry) (o : ℕ) → place_at es o ≡ None → place_at (es ++ fs) o ≡ place_at fs o
in_second [] fs o e = refl
in_second (x ∷ es) fs o e =
    elim (cases_Bool (x.0 == o)) [
      | inl t ↦ let no : Some x.1 ≡ None = sym (cond-true (x.0 == o) _ _ t) ∙ e in cc
      | inr f ↦ cond-false (x.0 == o) _ _ f ∙ in_second es fs o (sym (cond-false (x.0 == o) _ _ f) ∙ e)
    ]

-- If no entry has the offset, the search finds nothing.
pub in_no_word : (key : ℕ → ℕ) (value : ℕ → Place) (k n o : ℕ) → ((w : ℕ) → k ≤ w → w < k + n → key w ≢ o) →
    place_at (map (λ x. (key x, value x)) (range_with_len k n)) o ≡ None
in_no_word key value k zero o free = refl
in_no_word key value k (suc n) o free =
    let low : k ≤ k = omega arith in
    let high : k < k + suc n = omega arith in
    cond-false (key k == o) _ _ (false_from_ne_true _ (λ t. free k low high (eqb-true _ _ t)))
    ∙ in_no_word key value (k + 1) n o (λ w l h. free w (omega arith) (omega arith))

-- If exactly one entry has the offset, the search finds that entry's place.
pub in_word : (key : ℕ → ℕ) (value : ℕ → Place) (k n o w : ℕ) → key w ≡ o → k ≤ w → w < k + n →
    ((y : ℕ) → key y ≡ o → y ≡ w) →
    place_at (map (λ x. (key x, value x)) (range_with_len k n)) o ≡ Some (value w)
in_word key value k zero o w e l h one = absurd (omega arith)
in_word key value k (suc n) o w e l h one =
    elim (cases_Bool (key k == o)) [
      | inl t ↦ let same : k ≡ w = one k (eqb-true _ _ t) in
          cond-true (key k == o) _ _ t ∙ ap (λ x. Some (value x)) same
      | inr f ↦
          let other : k ≢ w = λ s. both_ways _ f (eq-eqb _ _ (ap key s ∙ e)) in
          cond-false (key k == o) _ _ f ∙ in_word key value (k + 1) n o w e (omega arith) (omega arith) one
    ]

-- If no part has the offset, searching the list finds nothing.
pub in_no_piece : (g : ℕ → List Entry) (k n o : ℕ) → ((w : ℕ) → k ≤ w → w < k + n → place_at (g w) o ≡ None) →
    place_at (flat_map g (range_with_len k n)) o ≡ None
in_no_piece g k zero o free = refl
in_no_piece g k (suc n) o free =
    in_second (g k) (flat_map g (range_with_len (k + 1) n)) o (free k (omega arith) (omega arith))
    ∙ in_no_piece g (k + 1) n o (λ w l h. free w (omega arith) (omega arith))

-- If the second part doesn't have the offset, searching the list gives the same result as searching the first part.
pub in_either : (es fs : List Entry) (o : ℕ) → place_at fs o ≡ None → place_at (es ++ fs) o ≡ place_at es o
in_either [] fs o e = e
in_either (x ∷ es) fs o e =
    elim (cases_Bool (x.0 == o)) [
      | inl t ↦ cond-true (x.0 == o) _ _ t ∙ sym (cond-true (x.0 == o) _ _ t)
      | inr f ↦ cond-false (x.0 == o) _ _ f ∙ in_either es fs o e ∙ sym (cond-false (x.0 == o) _ _ f)
    ]

-- If all parts except one lack the offset, searching the list gives the same result as searching that part.
pub in_piece : (g : ℕ → List Entry) (k n o w : ℕ) → k ≤ w → w < k + n →
    ((y : ℕ) → k ≤ y → y < k + n → y ≢ w → place_at (g y) o ≡ None) →
    place_at (flat_map g (range_with_len k n)) o ≡ place_at (g w) o
in_piece g k zero o w l h free = absurd (omega arith)
in_piece g k (suc n) o w l h free =
    elim (cases_Bool (k == w)) [
      | inl t ↦
          let same : k ≡ w = eqb-true _ _ t in
          let rest = in_no_piece g (k + 1) n o (λ y a b. free y (omega arith) (omega arith) (omega arith)) in
          in_either (g k) (flat_map g (range_with_len (k + 1) n)) o rest ∙ ap (λ x. place_at (g x) o) same
      | inr f ↦
          let other : k ≢ w = λ s. both_ways _ f (eq-eqb _ _ s) in
          in_second (g k) (flat_map g (range_with_len (k + 1) n)) o (free k (omega arith) (omega arith) other)
          ∙ in_piece g (k + 1) n o w (omega arith) (omega arith) (λ y a b c. free y (omega arith) (omega arith) c)
    ]

-- Searching a side's registers, which start at an offset, finds the register at the given distance from that offset.
pub in_side : (c q r : ℕ) (first : RowId) (rs : List RowId) →
    place_at (side_entries c first rs q) (c + r) ≡ of_queue (row_after first rs r) q
in_side c q r first [] = refl
in_side c q r first (x ∷ rs) =
    elim (cases_Bool (distance first x == r)) [
      | inl t ↦
          let same : distance first x ≡ r = eqb-true _ _ t in
          cond-true (c + distance first x == c + r) _ _ (eq-eqb _ _ (ap (λ y. c + y) same))
          ∙ ap (λ o. of_queue o q) (sym (cond-true (distance first x == r) (Some x) (row_after first rs r) t))
      | inr f ↦
          let other : distance first x ≢ r = λ s. both_ways _ f (eq-eqb _ _ s) in
          cond-false (c + distance first x == c + r) _ _
          (false_from_ne_true _ (λ t. let s = eqb-true (c + distance first x) (c + r) t in other (omega arith)))
          ∙ in_side c q r first rs
          ∙ ap (λ o. of_queue o q) (sym (cond-false (distance first x == r) (Some x) (row_after first rs r) f))
    ]

-- If the offset is outside the side's registers, searching the side's registers finds nothing.
pub in_no_side : (c q o : ℕ) (first : RowId) (rs : List RowId) →
    list_all (λ x. nat_lt (distance first x) 0x40) rs ≡ true →
    ((x : ℕ) → x < 0x40 → c + x ≢ o) → place_at (side_entries c first rs q) o ≡ None
in_no_side c q o first [] e free = refl
in_no_side c q o first (x ∷ rs) e free =
    let both = and_parts (nat_lt (distance first x) 0x40) (list_all (λ x. nat_lt (distance first x) 0x40) rs) e in
    cond-false (c + distance first x == o) _ _
    (false_from_ne_true _ (λ t. free (distance first x) (ltb-true _ _ both.0) (eqb-true _ _ t)))
    ∙ in_no_side c q o first rs both.1 free

-- The search of the table finds the first entry with the offset.
pub found_at : (es : List Entry) (o : ℕ) → found (find (λ e. e.0 == o) es) ≡ located_at (place_at es o)
found_at [] o = refl
found_at (x ∷ es) o =
    elim (cases_Bool (x.0 == o)) [
      | inl t ↦ ap found (cond-true (x.0 == o) _ _ t) ∙ ap located_at (sym (cond-true (x.0 == o) _ _ t))
      | inr f ↦
          ap found (cond-false (x.0 == o) _ _ f) ∙ found_at es o ∙ ap located_at (sym (cond-false (x.0 == o) _ _ f))
    ]
